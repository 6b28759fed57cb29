use Rattle.std.proofs.Common.{◌≡◌, refl, ◌∙◌, ℤ, ℕ, arith, to_z, of_z, ◌+◌, ◌-◌, ◌≤◌, List, length, take, sym, subst, FitsSigned}
use Rattle.std.specs.Int.{w128}
use Rattle.std.proofs.lemmas.Int.{to_z-of_z}
use Rattle.dioid.specs.declared.dates.Date.{Date}
use Rattle.series_laws.specs.SeriesForms.{form_with, gap}
use Rattle.series_form.specs.Shapes.{shortened}
use Rattle.series_form.proofs.FirstPart.{V, shape_form}
use Rattle.series_form.proofs.shorten.PeriodicList.shape.Goals as goal

pub returns : goal.returns
returns c =
    let l : List Date = c.args.self.now.values in
    let n : ℕ = c.args.self.now.period in
    let x : ℤ = c.args.self.now.step in
    let fits : n ≤ length l = c.least_period-period.ensures.list.fits in
    let j : ℤ = to_z w128 (of_z w128 c.gain_of-jump.result) in
    let ej : to_z w128 (of_z w128 c.gain_of-jump.result) ≡ c.gain_of-jump.result = to_z-of_z w128 c.gain_of-jump.result (record { sfits = c.gain_of-jump.type_inv }) in
    let g : j ≡ gap (V l n x (length l - n)) (V l n x (length l - n + c.least_period-period.result)) = ej ∙ c.gain_of-jump.ensures.gain in
    let form : shortened l n x ≡ form_with (take (c.least_start.result + c.least_period-period.result) l) c.least_period-period.result j =
    shape_form l n x (length l - n) c.least_period-period.result c.least_start.result j refl fits c.least_period-period.ensures.value g c.least_start.ensures.value
    c.least_start.ensures.within c.least_period-period.ensures.within in
    let size : c.least_start.result + c.least_period-period.result ≤ length l = omega arith in
    record { fits = size; form = form; step_fits = subst (λ (z : ℤ). FitsSigned w128 z) (sym ej) (record { sfits = c.gain_of-jump.type_inv }) }
