use Rattle.std.proofs.Common.{ℕ, ◌+◌, ◌<◌, ◌≡◌, pos}
use Rattle.std.specs.Prelude.{slice_index_or}
use Rattle.dioid.specs.Dates.{move}
use Rattle.walks_by_ends.specs.LatestTimes.{walk_date}
use Rattle.walks_by_ends.proofs.ways.Ways.go_on.Given as goal

abbrev pub invariant-loop-index : goal.invariant-loop-index
invariant-loop-index l = (t : ℕ) → t < l.index → walk_date l.self t (l.number + 1) ≡ move (slice_index_or l.steps t (pos 0)) (walk_date l.self t l.number)
