use Rattle.std.specs.Prelude.{◌-◌}
use Rattle.series_laws.specs.SeriesForms.{size_of}
use Rattle.steady_series.specs.Cuts.{IsUnder}
use Rattle.steady_series.proofs.cuts.count_above.Given as goal

abbrev pub invariant-loop-passed : goal.invariant-loop-passed
invariant-loop-passed l = IsUnder l.first l.second.step (size_of l.first - l.passed) (size_of l.first) l.level
