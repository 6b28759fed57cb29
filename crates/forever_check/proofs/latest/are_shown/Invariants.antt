use Rattle.std.proofs.Common.{All, take}
use Rattle.forever_check.specs.ReleaseWalks.{IsReleaseShown}
use Rattle.forever_check.proofs.latest.are_shown.Given as goal

abbrev pub invariant-loop-list : goal.invariant-loop-list
invariant-loop-list l = All (IsReleaseShown l.net l.rows) (take l.list-index l.lists)
