-- A form with small numbers has no great value and no great step.
use Rattle.std.proofs.Common.{◌<◌, ◌≤◌, ◌⊎◌, inl, inr, ℤ, arith, get_or}
use Rattle.std.specs.Int.RustNames.{unsigned_abs}
use Rattle.dioid.specs.declared.dates.Date.TheVariants.{Early}
use Rattle.series_laws.specs.SeriesForms.{Form}
use Rattle.series_form.specs.NumberBounds.{IsSmallDate, HasSmallNumbers}
use Rattle.series_form.specs.SeriesAnswers.{IsFirstGreatValue, IsGreatStep}
use Rattle.series_form.specs.SeriesLimits.{greatest_value}

pub no_great : (f : Form) (v : ℤ) → HasSmallNumbers f → (IsFirstGreatValue f v ⊎ IsGreatStep f v) → ⊥
no_great f v h (inl g) =
    let small : IsSmallDate (get_or f.values g.place Early) = h.values g.place in
    let low : unsigned_abs v ≤ greatest_value = rw g.value at small in
    let high : greatest_value < unsigned_abs v = g.great in
    omega arith
no_great f v h (inr g) =
    let low : unsigned_abs v ≤ greatest_value = rw g.value at h.step in
    let high : greatest_value < unsigned_abs v = g.great in
    omega arith
