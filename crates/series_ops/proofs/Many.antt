-- A number many times over, as the code computes it.
use Rattle.std.proofs.Common.{◌≡◌, ◌≤◌, ◌*◌, ◌*ℤ◌, ℕ, ℤ, pos, ap, sym, ◌∙◌, arith, to_z, of_z, FitsSigned}
use Rattle.std.specs.Int.{w128}
use Rattle.std.specs.Int.RustNames.{unsigned_abs}
use Rattle.std.proofs.lemmas.Int.{to_z-of_z, unsigned_abs-mul}
use Rattle.std.proofs.lemmas.Nat.{mul-le}
use Rattle.series_laws.specs.Periodic.{times}
use Rattle.series_form.specs.SeriesLimits.{greatest_part_value, greatest_part_product}
use Rattle.series_form.proofs.DateNumbers.{times_product, step_of, mul_fits}

reach : (m : ℕ) (x : ℤ) → m ≤ 20000 → unsigned_abs x ≤ greatest_part_value → m * unsigned_abs x ≤ greatest_part_product
reach m x h k = let e : m * unsigned_abs x ≤ 20000 * greatest_part_value = mul-le m (unsigned_abs x) 20000 greatest_part_value h k in omega arith

pub many_fits : (m : ℕ) (x : ℤ) → m ≤ 20000 → unsigned_abs x ≤ greatest_part_value → FitsSigned w128 (to_z w128 m *ℤ to_z w128 (of_z w128 x))
many_fits m x h k = let r : m * unsigned_abs x ≤ greatest_part_product = reach m x h k in rw (step_of m x (omega arith) (omega arith)) (mul_fits m x (omega arith))

pub many_code : (m : ℕ) (x : ℤ) → m ≤ 20000 → unsigned_abs x ≤ greatest_part_value → to_z w128 (of_z w128 (to_z w128 m *ℤ to_z w128 (of_z w128 x))) ≡ times m x
many_code m x h k =
    let r : m * unsigned_abs x ≤ greatest_part_product = reach m x h k in
    ap (λ (z : ℤ). to_z w128 (of_z w128 z)) (step_of m x (omega arith) (omega arith)) ∙ to_z-of_z w128 (pos m *ℤ x) (mul_fits m x (omega arith)) ∙ sym (times_product m x)

pub many_bound : (m : ℕ) (x : ℤ) → m ≤ 20000 → unsigned_abs x ≤ greatest_part_value → unsigned_abs (times m x) ≤ greatest_part_product
many_bound m x h k =
    let r : m * unsigned_abs x ≤ greatest_part_product = reach m x h k in
    let e : unsigned_abs (times m x) ≡ m * unsigned_abs x = ap unsigned_abs (times_product m x) ∙ unsigned_abs-mul (pos m) x in
    omega arith
