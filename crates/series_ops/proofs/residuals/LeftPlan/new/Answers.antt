use Rattle.std.proofs.Common.{◌≡◌, ◌≤◌, ◌+◌, ◌∙◌, ℕ, List, ap, sym, subst, arith, length}
use Rattle.dioid.specs.declared.dates.Date.{Date}
use Rattle.series_laws.specs.SeriesForms.{Form, size_of, value_at, table}
use Rattle.series_laws.specs.ProductNeeds.{offsets_of, OffsetsDecide}
use Rattle.series_laws.proofs.FormValues.{table_length}
use Rattle.series_form.specs.NumberBounds.{IsSeries}
use Rattle.series_form.specs.SeriesLimits.{greatest_listed, greatest_value_far_ahead}
use Rattle.series_ops.specs.Cells.{conjugates_reversed}
use Rattle.series_ops.specs.CoreSums.{SummedList, summed_list}
use Rattle.series_ops.specs.LeftPlans.{IsLeftPlan}
use Rattle.series_ops.specs.ListFunctions.{AreUpTo}
use Rattle.series_ops.proofs.FirstValues.{all_more}
use Rattle.series_ops.proofs.LeftSplits.{turned_length, turned_up_to}
use Rattle.series_ops.proofs.LeftValues.{long_table_up_to}
use Rattle.series_ops.proofs.residuals.LeftPlan.new.Goals as goal

-- the plan by the sums of the form and the list
planned : (f g : Form) (s : List Date) (sums : SummedList) (m : ℕ) → sums ≡ summed_list f s → IsSeries f → IsSeries g → OffsetsDecide f g → offsets_of f g ≤ 40000
    → m ≡ size_of g + offsets_of f g → conjugates_reversed s ≡ table (value_at g) m → IsLeftPlan sums g m
planned f g s sums m e sf sg decide few reach values = subst (λ (z : SummedList). IsLeftPlan z g m) (sym e)
    (record { left = sf; right = sg; decide = decide; few = few; reach = reach; are_values = values })

pub conjugates_back-requires : goal.conjugates_back-requires
conjugates_back-requires c =
    let first : length c.values.result.now ≡ size_of c.args.second.now = ap length c.values.ensures.value in
    let short = c.values.ensures.series.short in
    let few = c.requires.few in
    let offsets = c.offsets.ensures.value in
    all_more greatest_value_far_ahead greatest_listed c.as_slice.result.now (omega arith)
    (long_table_up_to c.args.second.now (length c.values.result.now + c.offsets.result) c.as_slice.result.now c.values.ensures.series
    (omega arith) (c.as_slice.ensures.value ∙ c.in_ok-list.ensures.values))

pub new-requires-clause-list : goal.new-requires-clause-list
new-requires-clause-list c =
    let first : length c.values.result.now ≡ size_of c.args.second.now = ap length c.values.ensures.value in
    let short = c.values.ensures.series.short in
    let few = c.requires.few in
    let offsets = c.offsets.ensures.value in
    turned_up_to greatest_value_far_ahead c.in_ok-ends.ends (subst (λ (z : List Date). AreUpTo greatest_value_far_ahead z) (sym c.in_ok-ends.ensures)
    (long_table_up_to c.args.second.now (length c.values.result.now + c.offsets.result) c.as_slice.result.now c.values.ensures.series
    (omega arith) (c.as_slice.ensures.value ∙ c.in_ok-list.ensures.values)))

pub new-requires-clause-short : goal.new-requires-clause-short
new-requires-clause-short c =
    let first : length c.values.result.now ≡ size_of c.args.second.now = ap length c.values.ensures.value in
    let short = c.values.ensures.series.short in
    let few = c.requires.few in
    let offsets = c.offsets.ensures.value in
    let size : length c.in_ok-ends.ends ≡ length c.values.result.now + c.offsets.result = sym (turned_length c.in_ok-ends.ends)
    ∙ ap length (c.in_ok-ends.ensures ∙ c.as_slice.ensures.value ∙ c.in_ok-list.ensures.values) ∙ table_length (value_at c.args.second.now) (length c.values.result.now + c.offsets.result) in
    omega arith

pub invariant_of-result : goal.invariant_of-result
invariant_of-result c =
    let first : length c.values.result.now ≡ size_of c.args.second.now = ap length c.values.ensures.value in
    let offsets = c.offsets.ensures.value in
    planned c.args.first.now c.args.second.now c.in_ok-ends.ends c.in_ok-sums.sums (length c.values.result.now + c.offsets.result) c.in_ok-sums.ensures
    c.period-series.ensures.series c.values.ensures.series c.requires.decide c.requires.few (omega arith)
    (c.in_ok-ends.ensures ∙ c.as_slice.ensures.value ∙ c.in_ok-list.ensures.values)
