use Rattle.std.proofs.Common.{◌≡◌, ◌≤◌, ◌<◌, ◌+◌, ◌-ℤ◌, ℕ, ℤ, ap, sym, subst, ◌∙◌, arith, to_z, of_z, get_or}
use Rattle.std.specs.Int.{w128}
use Rattle.std.specs.Int.RustNames.{unsigned_abs}
use Rattle.std.proofs.lemmas.Int.{to_z-of_z}
use Rattle.dioid.specs.declared.dates.Date.{Date}
use Rattle.dioid.specs.declared.dates.Date.TheVariants.{Early, At}
use Rattle.series_laws.specs.Periodic.{times}
use Rattle.series_laws.specs.SeriesForms.{Form, form_with, size_of, gap}
use Rattle.series_laws.proofs.FormValues.{value_in}
use Rattle.series_form.specs.NumberBounds.{IsMagnitudeUpTo}
use Rattle.series_form.proofs.DateNumbers.{abs_difference, moderate_fits, within_fits}
use Rattle.series_laws.specs.SeriesStars.{scaled}
use Rattle.series_laws.specs.ProductNeeds.{loss_of_part}
use Rattle.series_form.specs.SeriesLimits.{greatest_part_value, greatest_part_product}
use Rattle.series_ops.proofs.anchors.Parts.loss.Goals as goal

code : (a b : ℤ) → unsigned_abs a ≤ greatest_part_product → unsigned_abs b ≤ greatest_part_product → to_z w128 (of_z w128 (to_z w128 (of_z w128 a) -ℤ to_z w128 (of_z w128 b))) ≡ a -ℤ b
code a b h k =
    let d : unsigned_abs (a -ℤ b) ≤ greatest_part_product + greatest_part_product = abs_difference a b greatest_part_product greatest_part_product h k in
    ap (λ (z : ℤ). to_z w128 (of_z w128 (z -ℤ to_z w128 (of_z w128 b)))) (to_z-of_z w128 a (within_fits a (omega arith)))
    ∙ ap (λ (z : ℤ). to_z w128 (of_z w128 (a -ℤ z))) (to_z-of_z w128 b (within_fits b (omega arith)))
    ∙ to_z-of_z w128 (a -ℤ b) (within_fits (a -ℤ b) (omega arith))

lost : (f : Form) (place : ℕ) (v : ℤ) → place < size_of f → get_or f.values place Early ≡ At v → times place f.step -ℤ times f.period v ≡ loss_of_part f place
lost f place v w e = sym (ap (λ (z : Date). gap (scaled f.period z) (At (times place f.step))) (value_in f place w ∙ e))

pub returns-in-At-clause-value : goal.returns-in-At-clause-value
returns-in-At-clause-value c =
    let low : unsigned_abs c.in-At.value ≤ greatest_part_value = subst (λ (z : Date). IsMagnitudeUpTo greatest_part_value z) c.in-At.is (c.args.self.now.up c.args.place) in
    let a : c.many.result ≡ times c.args.place c.args.self.now.step = c.many.ensures.value
    ∙ ap (times c.args.place) (to_z-of_z w128 c.args.self.now.step (moderate_fits c.args.self.now.step (omega (arith, c.args.self.now.small_step)))) in
    let b : c.many-in-At.result ≡ times c.args.self.now.period c.in-At.value = c.many-in-At.ensures.value
    ∙ ap (times c.args.self.now.period) (to_z-of_z w128 c.in-At.value (moderate_fits c.in-At.value (omega arith))) in
    code c.many.result c.many-in-At.result c.many.ensures.bound c.many-in-At.ensures.bound ∙ ap (λ (z : ℤ). z -ℤ c.many-in-At.result) a ∙ ap (λ (z : ℤ). times c.args.place c.args.self.now.step -ℤ z) b
    ∙ lost (form_with c.args.self.now.values.now c.args.self.now.period c.args.self.now.step) c.args.place c.in-At.value c.requires.place c.in-At.is
