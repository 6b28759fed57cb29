use Rattle.std.proofs.Common.{rules, ◌≡◌, ◌/◌, ◌+◌, ◌-◌, ℕ, List, ap, arith, get_or, sym, length, ◌∙◌, to_z, of_z}
use Rattle.std.specs.Int.{w128}
use Rattle.std.proofs.lemmas.Int.{to_z-of_z}
use Rattle.std.proofs.Math.Nat.{div-one}
use Rattle.dioid.specs.declared.dates.Date.{Date}
use Rattle.dioid.specs.declared.dates.Date.TheVariants.{Early}
use Rattle.series_laws.specs.Periodic.{times}
use Rattle.series_laws.specs.SeriesForms.{size_of}
use Rattle.series_laws.proofs.FormValues.{value_in}
use Rattle.steady_series.proofs.CutLefts.{under_on}
use Rattle.steady_series.proofs.cuts.count_above.Goals as goal

pub loop-passed-preserved : goal.loop-passed-preserved
loop-passed-preserved c =
    let f = c.args.first.now in
    let g = c.args.second.now in
    let long : length c.values-values.result.now ≡ size_of f = ap length c.values-values.ensures.value in
    let passed = c.loop-passed.passed in
    let shift : ℕ = size_of f - (passed + 1) in
    let place : length c.values-values.result.now - 1 - passed ≡ shift = omega (arith, long) in
    let turns : shift / g.period ≡ shift = ap (λ (n : ℕ). shift / n) c.requires.single ∙ div-one shift in
    let here = value_in f shift (omega (arith, long, c.loop-passed-test.true)) ∙ ap (λ (l : List Date). get_or l shift Early) (sym c.values-values.ensures.value)
    ∙ ap (λ (n : ℕ). get_or c.values-values.result.now n Early) (sym place) in
    let gained : to_z w128 (of_z w128 c.gain_over.result) ≡ c.gain_over.result = to_z-of_z w128 c.gain_over.result (record { sfits = c.gain_over.type_inv }) in
    let rise = gained ∙ c.gain_over.ensures.value ∙ ap (λ (n : ℕ). times (n / g.period) g.step) place ∙ ap (λ (n : ℕ). times n g.step) turns in
    under_on f g.step _ _ _ (size_of f - passed) shift _ c.is_above.result c.loop-passed.invariant (omega (arith, long, c.loop-passed-test.true)) here rise c.is_above.ensures c.if-is_above.false (search rules)

pub returns-then-is_above-clause-under : goal.returns-then-is_above-clause-under
returns-then-is_above-clause-under c =
    let f = c.args.first.now in
    let long : length c.values-values.result.now ≡ size_of f = ap length c.values-values.ensures.value in
    let level : to_z w128 (of_z w128 c.args.level) ≡ c.args.level = search rules in
    let old = rw level at c.loop-passed.invariant in
    λ i z begun within there. old i z (omega (arith, long, begun, c.loop-passed-test.true)) within there

pub returns-clause-under : goal.returns-clause-under
returns-clause-under c =
    let f = c.args.first.now in
    let long : length c.values-values.result.now ≡ size_of f = ap length c.values-values.ensures.value in
    let level : to_z w128 (of_z w128 c.args.level) ≡ c.args.level = search rules in
    let old = rw level at c.loop-passed.invariant in
    λ i z begun within there. old i z (omega (arith, long, c.loop-passed-test.false)) within there
