use Rattle.std.proofs.Common.{◌≡◌, List, subst}
use Rattle.std.specs.Prelude.{IfOk}
use Rattle.dioid.specs.declared.dates.Date.{Date}
use Rattle.series_laws.specs.SeriesForms.{value_at}
use Rattle.series_ops.proofs.SplitLaws.{product_turned}
use Rattle.series_ops.proofs.products.product_values.Goals as goal

pub returns-then-values : goal.returns-then-values
returns-then-values c = subst (λ (z : List Date). IfOk c.values_by_first.result (λ values. values.items ≡ z)) (product_turned (value_at c.args.second.now) (value_at c.args.first.now) c.args.count)
    c.values_by_first.ensures
