use Rattle.std.proofs.Common.{◌≡◌}
use Rattle.walks_by_ends.proofs.Told.{dates_to}
use Rattle.walks_by_ends.proofs.times.LatestTimes.row.Given as goal

abbrev pub invariant-loop-number : goal.invariant-loop-number
invariant-loop-number l = l.row.items ≡ dates_to l.self-inside.ways l.transition.index l.number
