use Rattle.std.proofs.Common.{◌≡◌}
use Rattle.walks_by_ends.proofs.Told.{dates_to}
use Rattle.walks_by_ends.proofs.times.LatestTimes.has_same_row.Given as goal

abbrev pub invariant-loop-number : goal.invariant-loop-number
invariant-loop-number l = dates_to l.self-inside.ways l.first.index l.number ≡ dates_to l.self-inside.ways l.other.index l.number
