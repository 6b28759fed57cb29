use Rattle.std.proofs.Common.{◌≡◌, ◌+◌, ℤ, subst, sym, to_z, of_z}
use Rattle.std.specs.Int.{w128}
use Rattle.std.proofs.lemmas.Int.{to_z-of_z}
use Rattle.dioid.specs.declared.dates.Date.TheVariants.{At}
use Rattle.series_laws.specs.SeriesForms.{value_at, monomial_at, table, HasValues}
use Rattle.series_laws.specs.Needs.{plan}
use Rattle.series_form.specs.SeriesAnswers.{form_before, IsShortestSeries, IsBeginning}
use Rattle.series_form.proofs.Finished.{monomial_tabled, tabled_begins, tabled_answer}
use Rattle.series_form.proofs.forms.Series.monomial.Goals as goal

pub shortest-requires : goal.shortest-requires
shortest-requires c =
    let ex : to_z w128 (of_z w128 c.args.date) ≡ c.args.date = to_z-of_z w128 c.args.date c.ranges.date in
    let items : c.in-Ok.values.items ≡ table (monomial_at c.args.shift c.args.date) (c.args.shift + 1) =
    subst (λ (z : ℤ). c.in-Ok.values.items ≡ table (monomial_at c.args.shift z) (c.args.shift + 1)) ex c.in-Ok.ensures in
    let t = monomial_tabled c.args.shift c.args.date c.in-Ok.values.items c.requires.date items in
    subst (λ (z : ℤ). IsBeginning c.in-Ok.values.items 1 (At z)) (sym ex)
    (tabled_begins (monomial_at c.args.shift c.args.date) (plan c.args.shift 1) c.in-Ok.values.items (At c.args.date) t c.if-need-gt20000.false)

pub returns-in-Ok : goal.returns-in-Ok
returns-in-Ok c =
    let ex : to_z w128 (of_z w128 c.args.date) ≡ c.args.date = to_z-of_z w128 c.args.date c.ranges.date in
    let items : c.in-Ok.values.items ≡ table (monomial_at c.args.shift c.args.date) (c.args.shift + 1) =
    subst (λ (z : ℤ). c.in-Ok.values.items ≡ table (monomial_at c.args.shift z) (c.args.shift + 1)) ex c.in-Ok.ensures in
    let t = monomial_tabled c.args.shift c.args.date c.in-Ok.values.items c.requires.date items in
    tabled_answer (monomial_at c.args.shift c.args.date) (plan c.args.shift 1) c.in-Ok.values.items (At c.args.date) t
    (λ r. HasValues r (monomial_at c.args.shift c.args.date)) c.shortest.result (λ f h. h) c.if-need-gt20000.false
    (subst (λ (z : ℤ). IsShortestSeries (value_at (form_before c.in-Ok.values.items 1 (At z))) c.shortest.result) ex c.shortest.ensures)
