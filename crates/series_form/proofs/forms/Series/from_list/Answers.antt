use Rattle.std.proofs.Common.{◌≡◌, ap, sym, ◌∙◌, subst, ℕ, List, length, Result, Ok, Err, ◌≤◌, to_z, of_z}
use Rattle.std.specs.Int.{w128}
use Rattle.std.proofs.lemmas.Int.{to_z-of_z}
use Rattle.dioid.specs.declared.dates.Date.{Date}
use Rattle.series_form.specs.declared.forms.SeriesRefused.{SeriesRefused}
use Rattle.series_form.specs.declared.forms.SeriesRefused.TheVariants.{TooLong, TooGreat, OutOfMemory}
use Rattle.series_laws.specs.SeriesForms.{Form, form_with, value_at, HasValues}
use Rattle.series_form.specs.PeriodicLists.{IsPeriodicList}
use Rattle.series_form.specs.SeriesAnswers.{AnswersOf, IsShortestSeries}
use Rattle.series_form.proofs.forms.Series.from_list.Goals as goal

answered : (s : ℕ → Date) (n : ℕ) (r : Result Form SeriesRefused) → n ≤ 20000 → IsShortestSeries s r → AnswersOf (λ f. HasValues f s) n n r
answered s n (Ok f) short h = (h.0, h.1, short)
answered s n (Err (TooLong m)) short h = absurd h
answered s n (Err (TooGreat v)) short h = (short, h)
answered s n (Err OutOfMemory) short h = absurd h

pub finish-requires : goal.finish-requires
finish-requires c =
    let same : form_with c.in-Ok.list.items c.args.period (to_z w128 (of_z w128 c.args.step)) ≡ form_with c.args.values.now c.args.period c.args.step =
    ap (λ (z : List Date). form_with z c.args.period (to_z w128 (of_z w128 c.args.step))) c.in-Ok.ensures
    ∙ ap (form_with c.args.values.now c.args.period) (to_z-of_z w128 c.args.step c.ranges.step) in
    subst (λ (z : Form). IsPeriodicList z) (sym same)
    (record { positive = c.requires.positive; fits = c.requires.fits; short = c.if-values-gt20000.false; step_fits = c.ranges.step; rising = c.requires.rising })

pub returns-in-Ok : goal.returns-in-Ok
returns-in-Ok c =
    let same : form_with c.in-Ok.list.items c.args.period (to_z w128 (of_z w128 c.args.step)) ≡ form_with c.args.values.now c.args.period c.args.step =
    ap (λ (z : List Date). form_with z c.args.period (to_z w128 (of_z w128 c.args.step))) c.in-Ok.ensures
    ∙ ap (form_with c.args.values.now c.args.period) (to_z-of_z w128 c.args.step c.ranges.step) in
    answered (value_at (form_with c.args.values.now c.args.period c.args.step)) (length c.args.values.now) c.finish.result c.if-values-gt20000.false
    (subst (λ (z : Form). IsShortestSeries (value_at z) c.finish.result) same c.finish.ensures)
