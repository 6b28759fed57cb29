use Rattle.std.proofs.Common.{◌≡◌, ap, sym, ◌∙◌, arith, ◌+◌, ◌-◌, ◌-ℤ◌, ◌≤◌, ◌<◌, ℕ, ℤ, List, get_or, length, FitsSigned, to_z, of_z}
use Rattle.std.specs.Int.{w128}
use Rattle.std.proofs.lemmas.Int.{to_z-of_z}
use Rattle.dioid.specs.declared.dates.Date.{Date}
use Rattle.dioid.specs.declared.dates.Date.TheVariants.{Early}
use Rattle.dioid.specs.Dates.{move}
use Rattle.series_laws.specs.SeriesForms.{form_with, date_eqb}
use Rattle.series_laws.proofs.FormValues.{value_in}
use Rattle.series_form.proofs.FirstPart.{V}
use Rattle.series_form.proofs.Listed.{past, moved_over}
use Rattle.series_form.proofs.shorten.PeriodicList.moves_at.Goals as goal

pub overflow_add-there : goal.overflow_add-there
overflow_add-there c =
    let some = c.self.invariant.fits in
    let few = c.self.invariant.short in
    let turn : c.args.turn ≤ c.self.inside.period = rw (← c.self.view_is) at c.requires.jump.within in
    let shift : c.args.shift < length c.self.inside.values.now = rw (← c.self.view_is) at c.requires.shift in
    omega arith

pub returns-then-there-size : goal.returns-then-there-size
returns-then-there-size c =
    let l : List Date = c.self.inside.values.now in
    let n : ℕ = c.self.inside.period in
    let x : ℤ = c.self.inside.step in
    let k : ℕ = c.args.shift in
    let m : ℕ = c.args.turn in
    let j : ℤ = c.args.jump in
    let shift : k < length l = rw (← c.self.view_is) at c.requires.shift in
    let here : V l n x k ≡ get_or l k Early = value_in (form_with l n x) k shift in
    let there : V l n x (k + m) ≡ get_or l (k + m) Early = value_in (form_with l n x) (k + m) c.if-there-size.true in
    rw (← c.self.view_is) (c.is_moved.ensures
    ∙ ap (λ (z : ℤ). date_eqb (get_or l (k + m) Early) (move z (get_or l k Early))) (to_z-of_z w128 j c.ranges.jump)
    ∙ ap (λ (z : Date). date_eqb z (move j (get_or l k Early))) (sym there)
    ∙ ap (λ (z : Date). date_eqb (V l n x (k + m)) (move j z)) (sym here))

pub returns : goal.returns
returns c =
    let l : List Date = c.self.inside.values.now in
    let n : ℕ = c.self.inside.period in
    let x : ℤ = c.self.inside.step in
    let k : ℕ = c.args.shift in
    let m : ℕ = c.args.turn in
    let j : ℤ = c.args.jump in
    let some = c.self.invariant.positive in
    let fits = c.self.invariant.fits in
    let turn : m ≤ n = rw (← c.self.view_is) at c.requires.jump.within in
    let shift : k < length l = rw (← c.self.view_is) at c.requires.shift in
    let room : FitsSigned w128 (x -ℤ j) = rw (← c.self.view_is) at c.requires.jump.rest in
    let a : Date = get_or l (k + m - n) Early in
    let b : Date = get_or l k Early in
    let here : V l n x k ≡ b = value_in (form_with l n x) k shift in
    let there : V l n x (k + m) ≡ move x a = past l n x some fits (k + m) (omega arith) (omega arith) in
    let rest : to_z w128 (of_z w128 (to_z w128 (of_z w128 x) -ℤ to_z w128 (of_z w128 j))) ≡ x -ℤ j =
    ap (λ (z : ℤ). to_z w128 (of_z w128 (z -ℤ to_z w128 (of_z w128 j)))) (to_z-of_z w128 x c.self.invariant.step_fits)
    ∙ ap (λ (z : ℤ). to_z w128 (of_z w128 (x -ℤ z))) (to_z-of_z w128 j c.ranges.jump)
    ∙ to_z-of_z w128 (x -ℤ j) room in
    rw (← c.self.view_is) (c.is_moved-2.ensures
    ∙ ap (λ (z : ℤ). date_eqb b (move z a)) rest
    ∙ moved_over x j a b
    ∙ ap (λ (z : Date). date_eqb z (move j b)) (sym there)
    ∙ ap (λ (z : Date). date_eqb (V l n x (k + m)) (move j z)) (sym here))
