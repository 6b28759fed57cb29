use Rattle.std.proofs.Common.{◌≡◌, ◌≤◌, take}
use Rattle.teg_pace_commands.specs.Trial.{critical_count}
use Rattle.teg_pace_commands.proofs.trial.critical_count.Given as goal

abbrev pub invariant-loop-index : goal.invariant-loop-index
invariant-loop-index l = (l.count ≡ critical_count (take l.index l.slacks)) × (l.count ≤ l.index)
