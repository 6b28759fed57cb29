use Rattle.std.proofs.Common.{ℕ, ℤ, pos, nat_abs, ◌≡◌, ◌≤◌, ◌+◌, ◌-◌, ◌*◌, ◌/◌, true, false, FitsSigned, to_z, of_z, refl, sym, ap, subst, ◌∙◌, arith, rules}
use Rattle.std.specs.Prelude.{◌≤ℤ◌}
use Rattle.std.specs.Int.{w128}
use Rattle.std.specs.Int.Signed.{le_z, le_z_yes}
use Rattle.std.proofs.Math.Dec.{T}
use Rattle.std.proofs.lemmas.Int.{ints, to_z-of_z}
use Rattle.teg_sizing.proofs.Enough.{enough_none, fewest_by, never_by, quotient_up, quotient_low, number_of}
use Rattle.teg_sizing.proofs.sizing.sizing_by.Goals as goal

-- what the test says of a value that fits
low_if : (v w : ℤ) → w ≡ v → le_z w (pos 0) ≡ true → v ≤ℤ pos 0
low_if v w is e = le_z_yes {a = v} {b = pos 0} (subst T (sym (ap (λ (z : ℤ). le_z z (pos 0)) (sym is) ∙ e)) tt)

high_if : (v w : ℤ) → w ≡ v → le_z w (pos 0) ≡ false → v ≤ℤ pos 0 → ⊥
high_if v w is e l = subst T (ap (λ (z : ℤ). le_z z (pos 0)) (sym is) ∙ e) l.le

pub returns-then-best-le0 : goal.returns-then-best-le0
returns-then-best-le0 c =
    let v = c.args.best.value in
    let fits : FitsSigned w128 v = search rules in
    (refl, enough_none c.args.net.now c.args.target c.args.place v c.args.best.places.items c.requires.apart c.requires.best (low_if v _ (to_z-of_z w128 v fits) c.if-best-le0.true))

pub returns-then-time-eq0 : goal.returns-then-time-eq0
returns-then-time-eq0 c =
    let v = c.args.best.value in
    let fits : FitsSigned w128 v = search rules in
    never_by c.args.net.now c.args.target c.args.place v c.args.best.places.items c.lowest_first-circuit.result.places.items
    c.requires.apart c.requires.best c.lowest_first-circuit.ensures (high_if v _ (to_z-of_z w128 v fits) c.if-best-le0.false)
    (sym c.time.ensures.value ∙ c.if-time-eq0.true)

pub returns : goal.returns
returns c =
    let net = c.args.net.now in
    let v = c.args.best.value in
    let fits : FitsSigned w128 v = search rules in
    let is = to_z-of_z w128 v fits in
    let above = high_if v _ is c.if-best-le0.false in
    let number = number_of v above in
    let m : ℕ = number.0 in
    let a : ℕ = c.args.target.time in
    let some : 1 ≤ a = (let time : c.time.result ≡ a = c.time.ensures.value in let none = c.if-time-eq0.false in omega arith) in
    let one = number.2 in
    let abs : nat_abs (to_z w128 (of_z w128 v)) ≡ m = ap nat_abs (is ∙ number.1) in
    let extra : ℕ = (m - 1) / a + 1 in
    let up = quotient_up m a some one in
    let high : v ≤ℤ pos (a * extra) = subst (λ (z : ℤ). z ≤ℤ pos (a * extra)) (sym number.1) (omega (arith, ints)) in
    let back : extra - 1 ≡ (m - 1) / a = omega arith in
    let low : v ≤ℤ pos (a * (extra - 1)) → ⊥ = λ l. quotient_low m a some one
    (down m (a * ((m - 1) / a)) (subst (λ (z : ℕ). pos m ≤ℤ pos (a * z)) back (subst (λ (z : ℤ). z ≤ℤ pos (a * (extra - 1))) number.1 l))) in
    rw (abs, c.time-2.ensures.value)
    (fewest_by net c.args.target c.args.place v c.args.best.places.items c.lowest_first-circuit.result.places.items extra
    c.requires.apart c.requires.best c.lowest_first-circuit.ensures (omega arith) high low) where
      down : (x y : ℕ) → pos x ≤ℤ pos y → x ≤ y
      down x y l = omega (arith, ints)
