use Rattle.std.proofs.Common.{◌-◌, ℕ, ap}
use Rattle.series_ops.proofs.splits.Tail.span.Goals as goal

pub returns-clause-from : goal.returns-clause-from
returns-clause-from c = rw (← c.self.view_is) (ap (λ (z : ℕ). z - c.self.inside.period) c.len.ensures.value)
