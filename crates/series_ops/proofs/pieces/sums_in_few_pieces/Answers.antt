use Rattle.std.proofs.Common.{◌≡◌, ◌≤◌, ◌∙◌, ℕ, List, ap, sym, subst, arith, length}
use Rattle.dioid.specs.declared.dates.Date.{Date}
use Rattle.series_laws.specs.SeriesForms.{table}
use Rattle.series_form.specs.SeriesLimits.{greatest_listed}
use Rattle.series_ops.specs.ListFunctions.{value_listed}
use Rattle.series_ops.specs.Pieces.{window, IsSpanOf}
use Rattle.series_ops.proofs.FirstValues.{all_up_to}
use Rattle.series_ops.proofs.PieceLaws.{own_table, first_sums}
use Rattle.series_ops.proofs.pieces.sums_in_few_pieces.Goals as goal

pub in_few_pieces-requires : goal.in_few_pieces-requires
in_few_pieces-requires c =
    let own : c.as_slice-own.result.now ≡ c.args.first.now = c.as_slice-own.ensures.value ∙ c.in_ok-dates.ensures.value
    ∙ ap (table (value_listed c.args.first.now)) c.len-2.ensures.value ∙ sym (own_table c.args.first.now) in
    let short : length c.args.first.now ≤ 20000 = omega (arith, c.len.ensures.value, c.if-len-gt20000.false) in
    subst (λ (z : List Date). IsSpanOf z c.args.span) (sym own)
    (record { fits = c.requires.fits; short = short; period = c.requires.period; values = c.requires.values short })

pub sums_by_pieces-requires-clause-span : goal.sums_by_pieces-requires-clause-span
sums_by_pieces-requires-clause-span c =
    let own : c.as_slice-own.result.now ≡ c.args.first.now = c.as_slice-own.ensures.value ∙ c.in_ok-dates.ensures.value
    ∙ ap (table (value_listed c.args.first.now)) c.len-2.ensures.value ∙ sym (own_table c.args.first.now) in
    let short : length c.args.first.now ≤ 20000 = omega (arith, c.len.ensures.value, c.if-len-gt20000.false) in
    subst (λ (z : List Date). IsSpanOf z c.in-Some.few) (sym own)
    (record { fits = omega (arith, c.requires.fits, c.in-Some.ensures.from, c.in-Some.ensures.count); short = short; period = c.in-Some.ensures.stride; values = c.requires.values short })

pub sums_by_pieces-requires-clause-second : goal.sums_by_pieces-requires-clause-second
sums_by_pieces-requires-clause-second c = all_up_to greatest_listed (value_listed c.args.second.now) c.args.size c.as_slice.result.now
    (c.as_slice.ensures.value ∙ c.in_ok-others-in-Some.ensures.value) (λ k w. c.in_ok-others-in-Some.ensures.bound k)

pub returns : goal.returns
returns c =
    let own : c.as_slice-own.result.now ≡ c.args.first.now = c.as_slice-own.ensures.value ∙ c.in_ok-dates.ensures.value
    ∙ ap (table (value_listed c.args.first.now)) c.len-2.ensures.value ∙ sym (own_table c.args.first.now) in
    let t : ℕ → Date = value_listed c.as_slice.result.now in
    first_sums c.args.first.now c.args.second.now c.as_slice.result.now c.in_ok-sums-in-Some.sums.items c.args.span.from c.args.span.count c.args.size
    (c.as_slice.ensures.value ∙ c.in_ok-others-in-Some.ensures.value)
    (c.in_ok-sums-in-Some.ensures ∙ ap (λ (z : List Date). table (window (value_listed z) t c.in-Some.few.from c.in-Some.few.count) (length c.as_slice.result.now)) own
    ∙ ap (λ (z : ℕ). table (window (value_listed c.args.first.now) t z c.in-Some.few.count) (length c.as_slice.result.now)) c.in-Some.ensures.from
    ∙ ap (λ (z : ℕ). table (window (value_listed c.args.first.now) t c.args.span.from z) (length c.as_slice.result.now)) c.in-Some.ensures.count)
