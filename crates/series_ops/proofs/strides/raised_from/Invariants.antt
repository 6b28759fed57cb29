use Rattle.std.proofs.Common.{◌-◌}
use Rattle.series_ops.specs.Strides.{AreRaised}
use Rattle.series_ops.proofs.strides.raised_from.Given as goal

abbrev pub invariant-loop-passed : goal.invariant-loop-passed
invariant-loop-passed l = AreRaised l.values (l.most - l.passed) l.most l.shifts l.gain
