use Rattle.std.proofs.Common.{All, take}
use Rattle.forever_check.specs.ReleaseWalks.{IsTurningIn}
use Rattle.forever_check.proofs.due_rows.are_turning.Given as goal

abbrev pub invariant-loop-due : goal.invariant-loop-due
invariant-loop-due l = All (IsTurningIn l.turn l.rows) (take l.due-index l.dues)
