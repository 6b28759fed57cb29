use Rattle.std.proofs.Common.{◌≡◌, ◌∙◌, ℤ, ℕ, List, sym, ap, subst, length, to_z, of_z}
use Rattle.std.specs.Int.{w128}
use Rattle.std.proofs.lemmas.Int.{to_z-of_z}
use Rattle.dioid.specs.declared.dates.Date.{Date}
use Rattle.series_form.specs.SeriesAnswers.{AnswersOf}
use Rattle.forever_laws.specs.series_laws.SeriesForms.{Form, HasValues, form_with, value_at}
use Rattle.forever_laws.specs.series_laws.Periodic.{Rising}
use Rattle.forever_laws.specs.settled_laws.SettledForms.{row_of, step_of_form}
use Rattle.teg_forever.specs.Alike.{told_form}
use Rattle.teg_forever.proofs.gains.told_series.Goals as goal

same : (l m : List Date) (n p : ℕ) (x y : ℤ) → l ≡ m → n ≡ p → x ≡ y → form_with l n x ≡ form_with m p y
same l m n p x y a b e = ap (λ (z : List Date). form_with z n x) a ∙ ap (λ (z : ℕ). form_with m z x) b ∙ ap (form_with m p) e

pub from_list-requires-clause-rising : goal.from_list-requires-clause-rising
from_list-requires-clause-rising c =
    let f = c.args.settled.now in
    let t = c.args.transition.index in
    let e = same c.as_slice.result.now (row_of f t) c.period.result f.period (to_z w128 (of_z w128 c.step.result))
    (step_of_form f t) (c.as_slice.ensures.value ∙ c.in-Ok.ensures.row) c.period.ensures
    (to_z-of_z w128 c.step.result (record { sfits = c.step.type_inv }) ∙ c.step.ensures.value) in
    subst (λ (z : Form). Rising (value_at z)) (sym e) c.requires.rising

pub returns : goal.returns
returns c =
    let f = c.args.settled.now in
    let t = c.args.transition.index in
    let e = same c.as_slice.result.now (row_of f t) c.period.result f.period (to_z w128 (of_z w128 c.step.result))
    (step_of_form f t) (c.as_slice.ensures.value ∙ c.in-Ok.ensures.row) c.period.ensures
    (to_z-of_z w128 c.step.result (record { sfits = c.step.type_inv }) ∙ c.step.ensures.value) in
    let long = ap length (c.as_slice.ensures.value ∙ c.in-Ok.ensures.row) in
    subst (λ (n : ℕ). AnswersOf (λ r. HasValues r (value_at (told_form f t))) n n c.from_list.result) long
    (subst (λ (z : Form). AnswersOf (λ r. HasValues r (value_at z)) (length c.as_slice.result.now) (length c.as_slice.result.now) c.from_list.result) e c.from_list.ensures)
