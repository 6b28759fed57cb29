use Rattle.std.proofs.Common.{ℕ, ◌≡◌, ◌<◌}
use Rattle.periodic_laws.specs.settled_laws.DateDifferences.{between}
use Rattle.date_rows.specs.Streams.{date_back}
use Rattle.teg_bound.proofs.two_streams.is_row_moved.Given as goal

abbrev pub invariant-loop-index : goal.invariant-loop-index
invariant-loop-index l = (t : ℕ) → t < l.index → between (date_back l.early.stream.last t l.behind) (date_back l.late.stream.last t l.behind) ≡ l.step
