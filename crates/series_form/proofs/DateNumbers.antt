-- Sums, products and quotients of the numbers of dates fit into their widths.
use Rattle.std.proofs.Common.{◌≡◌, ap, arith, ℕ, ℤ, pos, negsuc, zero, suc, ◌+◌, ◌*◌, ◌/◌, ◌%◌, ◌≤◌, ◌<◌, ◌+ℤ◌, ◌-ℤ◌, ◌*ℤ◌, sym, ◌∙◌, FitsSigned, to_z, of_z}
use Rattle.std.specs.Prelude.{◌≤ℤ◌}
use Rattle.std.specs.Int.{w128}
use Rattle.std.specs.Int.RustNames.{unsigned_abs}
use Rattle.std.proofs.lemmas.Int.{ints, to_z-of_z, to_z_pos, fits_signed_from_abs, unsigned_abs-mul}
use Rattle.std.proofs.lemmas.Nat.{mul-le, div-add-mod'}
use Rattle.std.proofs.Math.Nat.{le-mul_of_pos_right}
use Rattle.series_laws.specs.Periodic.{times}
use Rattle.series_form.specs.SeriesLimits.{greatest_value, most_common_shifts, greatest_gain, greatest_moderate, greatest_reach}

pub times_product : (m : ℕ) (x : ℤ) → times m x ≡ pos m *ℤ x
times_product zero x = omega (arith, ints)
times_product (suc m) x = let e : times m x ≡ pos m *ℤ x = times_product m x in omega (arith, ints)

pub small_fits : (x : ℤ) → unsigned_abs x ≤ greatest_value → FitsSigned w128 x
small_fits x h = fits_signed_from_abs w128 x (omega arith)

pub abs_le : (x : ℤ) (n : ℕ) → unsigned_abs x ≤ n → (x ≤ℤ pos n) × ((pos 0 -ℤ pos n) ≤ℤ x)
abs_le (pos m) n h = (omega (arith, ints), omega (arith, ints))
abs_le (negsuc m) n h = (omega (arith, ints), omega (arith, ints))

le_abs : (x : ℤ) (n : ℕ) → x ≤ℤ pos n → (pos 0 -ℤ pos n) ≤ℤ x → unsigned_abs x ≤ n
le_abs (pos m) n h k = omega (arith, ints)
le_abs (negsuc m) n h k = omega (arith, ints)

pub abs_sum : (a b : ℤ) (m n : ℕ) → unsigned_abs a ≤ m → unsigned_abs b ≤ n → unsigned_abs (a +ℤ b) ≤ m + n
abs_sum a b m n g h =
    let p = abs_le a m g in
    let q = abs_le b n h in
    let p0 : a ≤ℤ pos m = p.0 in
    let p1 : (pos 0 -ℤ pos m) ≤ℤ a = p.1 in
    let q0 : b ≤ℤ pos n = q.0 in
    let q1 : (pos 0 -ℤ pos n) ≤ℤ b = q.1 in
    le_abs (a +ℤ b) (m + n) (omega (arith, ints)) (omega (arith, ints))

pub abs_difference : (a b : ℤ) (m n : ℕ) → unsigned_abs a ≤ m → unsigned_abs b ≤ n → unsigned_abs (a -ℤ b) ≤ m + n
abs_difference a b m n g h =
    let p = abs_le a m g in
    let q = abs_le b n h in
    let p0 : a ≤ℤ pos m = p.0 in
    let p1 : (pos 0 -ℤ pos m) ≤ℤ a = p.1 in
    let q0 : b ≤ℤ pos n = q.0 in
    let q1 : (pos 0 -ℤ pos n) ≤ℤ b = q.1 in
    le_abs (a -ℤ b) (m + n) (omega (arith, ints)) (omega (arith, ints))

pub moderate_fits : (x : ℤ) → unsigned_abs x ≤ greatest_moderate → FitsSigned w128 x
moderate_fits x h = fits_signed_from_abs w128 x (omega arith)

product_abs : (m : ℕ) (x : ℤ) → m * unsigned_abs x ≤ greatest_reach → unsigned_abs (pos m *ℤ x) ≤ greatest_reach
product_abs m x h = rw (unsigned_abs-mul (pos m) x) h

pub mul_fits : (m : ℕ) (x : ℤ) → m * unsigned_abs x ≤ greatest_reach → FitsSigned w128 (pos m *ℤ x)
mul_fits m x h = let p : unsigned_abs (pos m *ℤ x) ≤ greatest_reach = product_abs m x h in fits_signed_from_abs w128 (pos m *ℤ x) (omega arith)

within_of : (a : ℤ) (m : ℕ) (x : ℤ) → unsigned_abs a ≤ greatest_moderate → m * unsigned_abs x ≤ greatest_reach
    → unsigned_abs (a +ℤ pos m *ℤ x) ≤ greatest_moderate + greatest_reach
within_of a m x g h = abs_sum a (pos m *ℤ x) greatest_moderate greatest_reach g (product_abs m x h)

pub within_fits : (a : ℤ) → unsigned_abs a ≤ greatest_moderate + greatest_reach → FitsSigned w128 a
within_fits a h = fits_signed_from_abs w128 a (omega arith)

pub add_fits : (a : ℤ) (m : ℕ) (x : ℤ) → unsigned_abs a ≤ greatest_moderate → m * unsigned_abs x ≤ greatest_reach → FitsSigned w128 (a +ℤ pos m *ℤ x)
add_fits a m x g h = within_fits (a +ℤ pos m *ℤ x) (within_of a m x g h)

-- as the code computes it
pub bits_of : (m : ℕ) → m ≤ greatest_value → to_z w128 m ≡ pos m
bits_of m h = to_z_pos w128 m (omega arith)

pub step_of : (m : ℕ) (x : ℤ) → m ≤ greatest_value → unsigned_abs x ≤ greatest_moderate → to_z w128 m *ℤ to_z w128 (of_z w128 x) ≡ pos m *ℤ x
step_of m x h k = ap (λ (z : ℤ). z *ℤ to_z w128 (of_z w128 x)) (bits_of m h) ∙ ap (λ (z : ℤ). pos m *ℤ z) (to_z-of_z w128 x (moderate_fits x k))

pub sum_of : (a : ℤ) (m : ℕ) (x : ℤ) → unsigned_abs a ≤ greatest_moderate → m ≤ greatest_value → unsigned_abs x ≤ greatest_moderate → m * unsigned_abs x ≤ greatest_reach
    → to_z w128 (of_z w128 a) +ℤ to_z w128 (of_z w128 (to_z w128 m *ℤ to_z w128 (of_z w128 x))) ≡ a +ℤ pos m *ℤ x
sum_of a m x g h k r =
    ap (λ (z : ℤ). z +ℤ to_z w128 (of_z w128 (to_z w128 m *ℤ to_z w128 (of_z w128 x)))) (to_z-of_z w128 a (moderate_fits a g))
    ∙ ap (λ (z : ℤ). a +ℤ to_z w128 (of_z w128 z)) (step_of m x h k) ∙ ap (λ (z : ℤ). a +ℤ z) (to_z-of_z w128 (pos m *ℤ x) (mul_fits m x r))

pub div_below : (k n : ℕ) → 0 < n → k / n ≤ k
div_below k n h =
    let e : k / n * n + k % n ≡ k = div-add-mod' k n in
    omega (arith, le-mul_of_pos_right (k / n) h)

-- a step many times, as the code computes it
gain_reach : (m : ℕ) (x : ℤ) → m ≤ most_common_shifts → unsigned_abs x ≤ greatest_value → m * unsigned_abs x ≤ greatest_gain
gain_reach m x h k = let e : m * unsigned_abs x ≤ most_common_shifts * greatest_value = mul-le m (unsigned_abs x) most_common_shifts greatest_value h k in omega arith

pub gain_bound : (m : ℕ) (x : ℤ) → m ≤ most_common_shifts → unsigned_abs x ≤ greatest_value → unsigned_abs (times m x) ≤ greatest_gain
gain_bound m x h k =
    let r : m * unsigned_abs x ≤ greatest_gain = gain_reach m x h k in
    let e : unsigned_abs (times m x) ≡ m * unsigned_abs x = ap unsigned_abs (times_product m x) ∙ unsigned_abs-mul (pos m) x in
    omega arith

pub gain_fits : (m : ℕ) (x : ℤ) → m ≤ most_common_shifts → unsigned_abs x ≤ greatest_value → FitsSigned w128 (to_z w128 m *ℤ to_z w128 (of_z w128 x))
gain_fits m x h k =
    let r : m * unsigned_abs x ≤ greatest_gain = gain_reach m x h k in
    rw (step_of m x (omega arith) (omega arith)) (mul_fits m x (omega arith))

pub gain_code : (m : ℕ) (x : ℤ) → m ≤ most_common_shifts → unsigned_abs x ≤ greatest_value → to_z w128 (of_z w128 (to_z w128 m *ℤ to_z w128 (of_z w128 x))) ≡ times m x
gain_code m x h k =
    let r : m * unsigned_abs x ≤ greatest_gain = gain_reach m x h k in
    ap (λ (z : ℤ). to_z w128 (of_z w128 z)) (step_of m x (omega arith) (omega arith)) ∙ to_z-of_z w128 (pos m *ℤ x) (mul_fits m x (omega arith)) ∙ sym (times_product m x)

pub difference_code : (a b : ℤ) → unsigned_abs a ≤ greatest_gain → unsigned_abs b ≤ greatest_gain → to_z w128 (of_z w128 (to_z w128 (of_z w128 a) -ℤ to_z w128 (of_z w128 b))) ≡ a -ℤ b
difference_code a b h k =
    let d : unsigned_abs (a -ℤ b) ≤ greatest_gain + greatest_gain = abs_difference a b greatest_gain greatest_gain h k in
    ap (λ (z : ℤ). to_z w128 (of_z w128 (z -ℤ to_z w128 (of_z w128 b)))) (to_z-of_z w128 a (moderate_fits a (omega arith)))
    ∙ ap (λ (z : ℤ). to_z w128 (of_z w128 (a -ℤ z))) (to_z-of_z w128 b (moderate_fits b (omega arith)))
    ∙ to_z-of_z w128 (a -ℤ b) (moderate_fits (a -ℤ b) (omega arith))
