use Rattle.std.proofs.Common.{rules, ◌≡◌, ◌≤◌, ap, sym, ◌∙◌, ℤ, ℕ, to_z, of_z, List, subst, take, FitsSigned}
use Rattle.std.specs.Int.{w128}
use Rattle.std.specs.Int.RustNames.{unsigned_abs}
use Rattle.std.proofs.lemmas.Int.{to_z-of_z}
use Rattle.dioid.specs.declared.dates.Date.{Date}
use Rattle.series_form.specs.NumberBounds.{IsSeries}
use Rattle.series_form.specs.PeriodicLists.{IsPeriodicList}
use Rattle.series_laws.specs.SeriesForms.{Form, form_with}
use Rattle.series_form.specs.Shapes.{IsShape, IsTooGreat, shortened}
use Rattle.series_form.specs.SeriesLimits.{greatest_value}
use Rattle.series_form.proofs.DateNumbers.{small_fits}
use Rattle.series_form.proofs.FirstPart.{shortened_series, shortened_answer, shortened_great}
use Rattle.series_form.proofs.forms.finish.Goals as goal

-- the form of the list, of which the code has the slice and the step as a number
listed : (l m : List Date) (n : ℕ) (x : ℤ) → m ≡ l → FitsSigned w128 x → form_with m n (to_z w128 (of_z w128 x)) ≡ form_with l n x
listed l m n x e f = ap (λ (z : List Date). form_with z n (to_z w128 (of_z w128 x))) e ∙ ap (form_with l n) (to_z-of_z w128 x f)

-- the first part of it
taken : (l m : List Date) (n k : ℕ) (x y : ℤ) (f : Form) → f ≡ form_with (take k l) n y → m ≡ take k l → unsigned_abs f.step ≤ greatest_value
    → form_with m n (to_z w128 (of_z w128 y)) ≡ f
taken l m n k x y f e items small =
    let low : unsigned_abs y ≤ greatest_value = subst (λ (z : Form). unsigned_abs z.step ≤ greatest_value) e small in
    listed (take k l) m n y items (small_fits y low) ∙ sym e

pub new-requires : goal.new-requires
new-requires c = subst (λ (z : Form). IsPeriodicList z) (sym (listed c.args.values.items c.as_slice.result.now c.args.turn c.args.step c.as_slice.ensures.value c.ranges.step)) c.requires

pub invariant_of-result : goal.invariant_of-result
invariant_of-result c =
    let l : List Date = c.args.values.items in
    let same = c.new.ensures ∙ listed l c.as_slice.result.now c.args.turn c.args.step c.as_slice.ensures.value c.ranges.step in
    let sh : IsShape l c.args.turn c.args.step c.in-Ok.shape = subst (λ (z : Form). IsShape z.values z.period z.step c.in-Ok.shape) same c.in-Ok.ensures in
    let form : form_with c.truncate.new.self.items c.in-Ok.shape.period (to_z w128 (of_z w128 c.in-Ok.shape.step)) ≡ shortened l c.args.turn c.args.step =
    taken l c.truncate.new.self.items c.in-Ok.shape.period c.in-Ok.shape.size c.args.step c.in-Ok.shape.step _ sh.form c.truncate.ensures.items sh.small.step in
    subst (λ (z : Form). IsSeries z) (sym form)
    (shortened_series l c.args.turn c.args.step c.requires.positive c.requires.fits c.requires.short c.requires.rising sh.small)

pub returns-in-Ok : goal.returns-in-Ok
returns-in-Ok c =
    let l : List Date = c.args.values.items in
    let same = c.new.ensures ∙ listed l c.as_slice.result.now c.args.turn c.args.step c.as_slice.ensures.value c.ranges.step in
    let sh : IsShape l c.args.turn c.args.step c.in-Ok.shape = subst (λ (z : Form). IsShape z.values z.period z.step c.in-Ok.shape) same c.in-Ok.ensures in
    let form : form_with c.truncate.new.self.items c.in-Ok.shape.period (to_z w128 (of_z w128 c.in-Ok.shape.step)) ≡ shortened l c.args.turn c.args.step =
    taken l c.truncate.new.self.items c.in-Ok.shape.period c.in-Ok.shape.size c.args.step c.in-Ok.shape.step _ sh.form c.truncate.ensures.items sh.small.step in
    shortened_answer l c.args.turn c.args.step c.requires.positive c.requires.fits c.requires.short c.requires.rising sh.small _ form

pub returns-in-Err : goal.returns-in-Err
returns-in-Err c =
    let l : List Date = c.args.values.items in
    let same = c.new.ensures ∙ listed l c.as_slice.result.now c.args.turn c.args.step c.as_slice.ensures.value c.ranges.step in
    let f : FitsSigned w128 c.in-Err.value = search rules in
    let great : IsTooGreat l c.args.turn c.args.step c.in-Err.value = subst (λ (z : Form). IsTooGreat z.values z.period z.step c.in-Err.value) same c.in-Err.ensures in
    rw (to_z-of_z w128 c.in-Err.value f) (shortened_great l c.args.turn c.args.step c.in-Err.value c.requires.positive c.requires.fits c.requires.rising great)
