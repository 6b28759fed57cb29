use Rattle.std.proofs.Common.{ℕ, ◌<◌, ◌≡◌, length, pos}
use Rattle.std.specs.Prelude.{slice_index_or}
use Rattle.walks_by_ends.specs.LatestTimes.{IsMostStep}
use Rattle.walks_by_ends.proofs.ways.Ways.steps.Given as goal

abbrev pub invariant-loop-index : goal.invariant-loop-index
invariant-loop-index l = (length l.steps.items ≡ l.index) × ((t : ℕ) → t < l.index → IsMostStep l.self t (slice_index_or l.steps.items t (pos 0)))
