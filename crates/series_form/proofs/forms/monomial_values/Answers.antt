use Rattle.std.proofs.Common.{◌≡◌, ◌∙◌, ◌+◌, ap, sym, ℤ, ℕ, to_z, of_z, arith}
use Rattle.std.specs.Int.{w128}
use Rattle.std.proofs.lemmas.Int.{to_z-of_z}
use Rattle.dioid.specs.declared.dates.Date.TheVariants.{Early, At}
use Rattle.series_laws.specs.SeriesForms.{table, monomial_at}
use Rattle.series_form.proofs.Finished.{table_push}
use Rattle.series_laws.proofs.Shifts.{monomial_below, monomial_from}
use Rattle.series_form.proofs.forms.monomial_values.Goals as goal

pub loop-place-preserved : goal.loop-place-preserved
loop-place-preserved c =
    let t : ℤ = to_z w128 (of_z w128 c.args.date) in
    c.in_ok-push.ensures.items ∙ table_push (monomial_at c.args.shift t) c.loop-place._place c.loop-place.values.items Early
    c.loop-place.invariant (sym (monomial_below c.args.shift t c.loop-place._place c.loop-place-test.true))

pub returns : goal.returns
returns c =
    let t : ℤ = to_z w128 (of_z w128 c.args.date) in
    let whole : c.loop-place._place ≡ c.args.shift = omega arith in
    let items : c.push-2.new.self.items ≡ table (monomial_at c.args.shift t) (c.loop-place._place + 1) =
    c.in_ok-push-2.ensures.items ∙ table_push (monomial_at c.args.shift t) c.loop-place._place c.loop-place.values.items
    (At t) c.loop-place.invariant (sym (monomial_from c.args.shift t c.loop-place._place (omega arith))) in
    items ∙ ap (λ (z : ℕ). table (monomial_at c.args.shift t) (z + 1)) whole ∙ ap (λ (z : ℤ). table (monomial_at c.args.shift z) (c.args.shift + 1)) (to_z-of_z w128 c.args.date c.ranges.date)
