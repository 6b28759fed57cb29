use Rattle.std.proofs.Common.{◌≡◌, sym, ℤ, ◌≤◌, ◌<◌, List, to_z, of_z, take, subst, inl, inr, rules, FitsSigned}
use Rattle.std.specs.Int.{w128}
use Rattle.std.specs.Int.RustNames.{unsigned_abs}
use Rattle.std.proofs.lemmas.Int.{to_z-of_z}
use Rattle.dioid.specs.declared.dates.Date.{Date}
use Rattle.series_laws.specs.SeriesForms.{Form, form_with}
use Rattle.series_form.specs.NumberBounds.{HasSmallNumbers}
use Rattle.series_form.specs.SeriesAnswers.{IsFirstGreat, IsFirstGreatValue, IsGreatStep}
use Rattle.series_form.specs.Shapes.{IsPart}
use Rattle.series_form.specs.SeriesLimits.{greatest_value}
use Rattle.series_form.proofs.FirstPart.{small_taken, great_taken}
use Rattle.series_form.proofs.shorten.PeriodicList.shorten.Goals as goal

pub returns : goal.returns
returns c =
    let l : List Date = c.self.inside.values.now in
    let h : IsPart l c.self.inside.period c.self.inside.step c.shape-shape.result = rw (← c.self.view_is) at c.shape-shape.ensures in
    let low : unsigned_abs c.shape-shape.result.step ≤ greatest_value =
    subst (λ (z : ℤ). unsigned_abs z ≤ greatest_value) (to_z-of_z w128 c.shape-shape.result.step h.step_fits) c.if-is_great.ensures in
    let small : HasSmallNumbers (form_with (take c.shape-shape.result.size l) c.shape-shape.result.period c.shape-shape.result.step) =
    record { values = small_taken l c.shape-shape.result.size c.in_default.ensures h.fits; step = low } in
    rw (← c.self.view_is) (record { fits = h.fits; form = h.form; small = subst (λ (z : Form). HasSmallNumbers z) (sym h.form) small })

pub returns-then-is_great : goal.returns-then-is_great
returns-then-is_great c =
    let l : List Date = c.self.inside.values.now in
    let h : IsPart l c.self.inside.period c.self.inside.step c.shape-shape.result = rw (← c.self.view_is) at c.shape-shape.ensures in
    let e : to_z w128 (of_z w128 c.shape-shape.result.step) ≡ c.shape-shape.result.step = to_z-of_z w128 c.shape-shape.result.step h.step_fits in
    let high : greatest_value < unsigned_abs (to_z w128 (of_z w128 c.shape-shape.result.step)) = c.if-is_great.ensures in
    let great : IsGreatStep (form_with (take c.shape-shape.result.size l) c.shape-shape.result.period
    c.shape-shape.result.step) (to_z w128 (of_z w128 c.shape-shape.result.step)) =
    record { values = small_taken l c.shape-shape.result.size c.in_default.ensures h.fits; value = sym e; great = high } in
    rw (← c.self.view_is) (inr (subst (λ (z : Form). IsGreatStep z (to_z w128 (of_z w128 c.shape-shape.result.step))) (sym h.form) great))

pub returns-in-Some : goal.returns-in-Some
returns-in-Some c =
    let l : List Date = c.self.inside.values.now in
    let h : IsPart l c.self.inside.period c.self.inside.step c.shape-shape.result = rw (← c.self.view_is) at c.shape-shape.ensures in
    let found : IsFirstGreat l c.shape-shape.result.size c.in-Some.value = c.in-Some.ensures in
    let fits : FitsSigned w128 c.in-Some.value = search rules in
    let ev : to_z w128 (of_z w128 c.in-Some.value) ≡ c.in-Some.value = to_z-of_z w128 c.in-Some.value fits in
    let great : IsFirstGreatValue (form_with (take c.shape-shape.result.size l) c.shape-shape.result.period c.shape-shape.result.step) c.in-Some.value =
    great_taken l c.shape-shape.result.size c.shape-shape.result.period c.shape-shape.result.step c.in-Some.value found in
    rw (← c.self.view_is) (rw ev (inl (subst (λ (z : Form). IsFirstGreatValue z c.in-Some.value) (sym h.form) great)))
