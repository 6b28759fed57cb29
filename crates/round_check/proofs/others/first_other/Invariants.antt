use Rattle.std.proofs.Common.{◌+◌, ◌≡◌, drop, length, map, take}
use Rattle.policy_rounds.specs.LastRounds.{AreRunsFrom, rounds_of_runs}
use Rattle.teg_lines.specs.CycleMeanings.{part_lists}
use Rattle.teg_lines.specs.RoundLines.{circuits_in}
use Rattle.round_check.proofs.others.first_other.Given as goal

abbrev pub invariant-loop-number : goal.invariant-loop-number
invariant-loop-number l = AreRunsFrom l.net l.answer.part_of.items 0 (take l.number l.answer.parts.items) (take l.told (rounds_of_runs l.runs))
    × (l.told + circuits_in (map part_lists (drop l.number l.answer.parts.items)) ≡ length l.runs)
