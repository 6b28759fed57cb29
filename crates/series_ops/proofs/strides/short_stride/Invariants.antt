use Rattle.series_ops.specs.Strides.{IsStride}
use Rattle.series_ops.proofs.strides.short_stride.Given as goal

abbrev pub invariant-loop-more : goal.invariant-loop-more
invariant-loop-more l = IsStride l.first l.best
