use Rattle.series_ops.specs.ListFunctions.{AreEarlyTo}
use Rattle.series_ops.proofs.core_sums.places_begun.Given as goal

abbrev pub invariant-loop-place : goal.invariant-loop-place
invariant-loop-place l = AreEarlyTo l.place l.list
