use Rattle.std.proofs.Common.{All, take}
use Rattle.forever_check.specs.ReleaseWalks.{IsDueIn}
use Rattle.forever_check.proofs.due_rows.are_dues.Given as goal

abbrev pub invariant-loop-due : goal.invariant-loop-due
invariant-loop-due l = All (IsDueIn l.rows) (take l.due-index l.dues)
