use Rattle.std.proofs.Common.{All, take}
use Rattle.forever_check.specs.ShownReleases.{IsShortestList}
use Rattle.forever_check.proofs.shortest.are_shortest.Given as goal

abbrev pub invariant-loop-list : goal.invariant-loop-list
invariant-loop-list l = All IsShortestList (take l.list-index l.lists)
