use Rattle.std.proofs.Common.{◌≡◌, ◌∙◌, List, ap, subst, arith, length}
use Rattle.std.specs.Prelude.{IfOk}
use Rattle.dioid.specs.declared.dates.Date.{Date}
use Rattle.series_laws.specs.SeriesForms.{value_at, table}
use Rattle.series_laws.specs.Product.{product_at}
use Rattle.series_laws.proofs.FormValues.{table_length}
use Rattle.series_form.specs.SeriesLimits.{greatest_listed, greatest_value_ahead}
use Rattle.series_ops.specs.CoreSums.{SummedList}
use Rattle.series_ops.specs.ListFunctions.{value_listed}
use Rattle.series_ops.proofs.FirstValues.{all_more, table_up_to}
use Rattle.series_ops.proofs.LeftValues.{long_table_up_to}
use Rattle.series_ops.proofs.SplitLaws.{product_listed}
use Rattle.series_ops.proofs.products.values_by_first.Goals as goal

pub collected-requires : goal.collected-requires
collected-requires c = all_more greatest_value_ahead greatest_listed c.as_slice.result.now (omega arith)
    (table_up_to c.args.second.now c.args.count c.as_slice.result.now c.in_ok-values.ensures.series c.requires (c.as_slice.ensures.value ∙ c.in_ok-values.ensures.values))

pub new-requires-clause-list : goal.new-requires-clause-list
new-requires-clause-list c =
    let short = c.requires in
    long_table_up_to c.args.second.now c.args.count c.in_ok-seconds.seconds c.in_ok-values.ensures.series (omega arith)
    (c.in_ok-seconds.ensures ∙ c.as_slice.ensures.value ∙ c.in_ok-values.ensures.values)

pub new-requires-clause-short : goal.new-requires-clause-short
new-requires-clause-short c =
    let short = c.requires in
    let size : length c.in_ok-seconds.seconds ≡ c.args.count = ap length (c.in_ok-seconds.ensures ∙ c.as_slice.ensures.value ∙ c.in_ok-values.ensures.values)
    ∙ table_length (value_at c.args.second.now) c.args.count in
    omega arith

pub values-requires : goal.values-requires
values-requires c =
    let size : length c.in_ok-sums.sums.list ≡ c.args.count = ap (λ (z : SummedList). length z.list) c.in_ok-sums.ensures
    ∙ ap length (c.in_ok-seconds.ensures ∙ c.as_slice.ensures.value ∙ c.in_ok-values.ensures.values) ∙ table_length (value_at c.args.second.now) c.args.count in
    omega arith

pub returns : goal.returns
returns c = subst (λ (z : List Date). IfOk c.values.result (λ values. values.items ≡ z))
    (ap (λ (z : SummedList). table (product_at (value_at z.form) (value_listed z.list)) c.args.count) c.in_ok-sums.ensures
    ∙ product_listed (value_at c.args.first.now) (value_at c.args.second.now) c.args.count c.in_ok-seconds.seconds
    (c.in_ok-seconds.ensures ∙ c.as_slice.ensures.value ∙ c.in_ok-values.ensures.values))
    c.values.ensures
