use Rattle.std.proofs.Common.{◌≡◌}
use Rattle.walks_by_ends.specs.LatestTimes.{latest_to}
use Rattle.walks_by_ends.proofs.ways.Ways.latest.Given as goal

abbrev pub invariant-loop-index : goal.invariant-loop-index
invariant-loop-index l = l.latest ≡ latest_to l.self l.transition.index l.number l.index
