use Rattle.round_check.specs.Rounds.{HasBegun}
use Rattle.round_check.proofs.runs.rounds_begun.Given as goal

abbrev pub invariant-loop-next : goal.invariant-loop-next
invariant-loop-next l = HasBegun l.part.net.now l.part.parts.now l.part.number l.rounds l.next
