use Rattle.std.proofs.Common.{◌≤◌, ◌+◌, ◌<◌, ◌∙◌, ℤ, List, ap, sym, subst, arith, length, map}
use Rattle.std.specs.Int.{w64}
use Rattle.std.proofs.lemmas.Int.{to_z-of_z}
use Rattle.dioid.specs.declared.dates.Date.{Date}
use Rattle.series_ops.specs.Cells.{date_of_far_cell, date_of_short_cell, AreShort, AreShortOf}
use Rattle.series_ops.specs.ListFunctions.{value_listed}
use Rattle.series_ops.specs.Splits.{greatest_from, split_of}
use Rattle.series_ops.proofs.ShortLaws.{short_splits}
use Rattle.series_ops.proofs.cells.greatest_split.Goals as goal

pub greatest_short-requires-clause-cells : goal.greatest_short-requires-clause-cells
greatest_short-requires-clause-cells c = subst (λ (z : List ℤ). AreShort z) (sym c.as_slice-numbers-2.ensures.value) c.first.invariant.1.short

pub greatest_short-requires-clause-others : goal.greatest_short-requires-clause-others
greatest_short-requires-clause-others c = subst (λ (z : List ℤ). AreShort z) (sym c.as_slice-others-2.ensures.value) c.second.invariant.1.short

pub returns-then-shift-others-clause-value : goal.returns-then-shift-others-clause-value
returns-then-shift-others-clause-value c =
    let n : List ℤ = c.as_slice-numbers-2.result.now in
    let o : List ℤ = c.as_slice-others-2.result.now in
    let k = c.args.shift in
    let p = c.args.from in
    let m = c.args.count in
    let hn : AreShortOf n c.first.inside.numbers.items = subst (λ (z : List ℤ). AreShortOf z c.first.inside.numbers.items) (sym c.as_slice-numbers-2.ensures.value) c.first.invariant.1 in
    let ho : AreShortOf o c.second.inside.numbers.items = subst (λ (z : List ℤ). AreShortOf z c.second.inside.numbers.items) (sym c.as_slice-others-2.ensures.value) c.second.invariant.1 in
    let inside : p + m ≤ length n = omega arith in
    let below : k < length o = omega arith in
    c.date_of_short.ensures.value
    ∙ ap date_of_short_cell (to_z-of_z w64 c.greatest_short.result (record { sfits = c.greatest_short.type_inv }))
    ∙ c.greatest_short.ensures
    ∙ short_splits n o c.first.inside.numbers.items c.second.inside.numbers.items k p m hn ho inside below
    ∙ ap (λ (z : List Date). greatest_from (split_of (value_listed z) (value_listed (map date_of_far_cell c.second.inside.numbers.items)) k) p m) c.first.view_is
    ∙ ap (λ (z : List Date). greatest_from (split_of (value_listed c.args.first.now) (value_listed z) k) p m) c.second.view_is
