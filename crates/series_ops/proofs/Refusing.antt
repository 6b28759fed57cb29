-- A refusal of a series as one of an element.
use Rattle.std.proofs.Common.{rules, ◌≤◌, ◌<◌, ◌⊎◌, ℕ, ℤ, true, sym, subst, arith, inl, inr, Err}
use Rattle.std.specs.Int.RustNames.{unsigned_abs}
use Rattle.dioid.specs.declared.dates.Date.{Date}
use Rattle.dioid.specs.declared.algebra.Refused.{Refused}
use Rattle.dioid.specs.ElementAnswers.{Answers}
use Rattle.series_form.specs.declared.forms.SeriesRefused.{SeriesRefused}
use Rattle.series_form.specs.declared.forms.SeriesRefused.TheVariants.{TooLong, TooGreat, OutOfMemory}
use Rattle.series_laws.specs.SeriesForms.{Form}
use Rattle.series_form.specs.NumberBounds.{IsSmallDate}
use Rattle.series_form.specs.SeriesAnswers.{Fits, IsFirstGreatValue, IsGreatStep}
use Rattle.series_ops.specs.ElementRefusals.{IsElementRefusal}
use Rattle.series_form.specs.SeriesAnswers as series
use Rattle.series_form.specs.SeriesLimits.{greatest_value}

great : (f : Form) (v : ℤ) (need : ℕ) → IsFirstGreatValue f v ⊎ IsGreatStep f v → Fits need f → ⊥
great f v need (inl h) fits =
    let low : unsigned_abs v ≤ greatest_value = subst (λ (z : Date). IsSmallDate z) h.value (fits.small.values h.place) in
    let high : greatest_value < unsigned_abs v = h.great in
    absurd (omega arith)
great f v need (inr h) fits =
    let low : unsigned_abs v ≤ greatest_value = subst (λ (z : ℤ). unsigned_abs z ≤ greatest_value) h.value fits.small.step in
    let high : greatest_value < unsigned_abs v = h.great in
    absurd (omega arith)

pub gain_refused : {M : Type 0} (need : ℕ) (f : Form) (value : M) (why : SeriesRefused) (r : Refused)
    → series.AnswersForm need f (Err why) → IsElementRefusal why r → Answers true (Fits need f) value (Err r)
gain_refused {M} need f value (TooLong n) r h e = subst (λ (z : Refused). Answers true (Fits need f) value (Err z)) (sym e)
    (λ fits. let a : need ≤ 20000 = fits.short in let b : 20000 < need = h in absurd (omega arith))
gain_refused {M} need f value (TooGreat v) r h e = subst (λ (z : Refused). Answers true (Fits need f) value (Err z)) (sym e) (λ fits. great f v need h.1 fits)
gain_refused {M} need f value OutOfMemory r h e = subst (λ (z : Refused). Answers true (Fits need f) value (Err z)) (sym e) (search rules)
