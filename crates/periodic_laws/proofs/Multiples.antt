-- The greatest of finitely many numbers, and their product.
use Rattle.std.proofs.Common.{◌≡◌, ap, arith, ℕ, zero, suc, ◌*◌, ◌/◌, ◌≤◌, ◌<◌, sym, ◌∙◌, ⊎_elim}
use Rattle.std.specs.Prelude.{max}
use Rattle.std.proofs.lemmas.Bool.{cases_lt}
use Rattle.std.proofs.Math.Nat.{le-max_left, le-max_right, le-mul_of_pos_right, mul-div_cancel}
use Rattle.periodic_laws.specs.RepeatNumbers.{greatest_of, product_of}

pub le_greatest : (f : ℕ → ℕ) (n t : ℕ) → t < n → f t ≤ greatest_of f n
le_greatest f zero t h = absurd (omega arith)
le_greatest f (suc n) t h =
    let a : greatest_of f n ≤ max (greatest_of f n) (f n) = le-max_left (greatest_of f n) (f n) in
    let b : f n ≤ max (greatest_of f n) (f n) = le-max_right (greatest_of f n) (f n) in
    ⊎_elim
    (λ (l : t < n). let e : f t ≤ greatest_of f n = le_greatest f n t l in omega arith)
    (λ (l : n ≤ t). let e : t ≡ n = omega arith in let g : f t ≡ f n = ap f e in omega arith)
    (cases_lt t n)

pub product_positive : (f : ℕ → ℕ) (n : ℕ) → ((t : ℕ) → 0 < f t) → 0 < product_of f n
product_positive f zero h = omega arith
product_positive f (suc n) h = omega (arith, le-mul_of_pos_right (product_of f n) (h n), product_positive f n h)

times_of : (f : ℕ → ℕ) (n t : ℕ) → t < n → (m : ℕ) × (product_of f n ≡ m * f t)
times_of f zero t h = absurd (omega arith)
times_of f (suc n) t h = ⊎_elim
    (λ (l : t < n).
    let before = times_of f n t l in
    let e : product_of f n ≡ before.0 * f t = before.1 in
    (before.0 * f n, ap (λ (z : ℕ). z * f n) e ∙ swap before.0 (f t) (f n)))
    (λ (l : n ≤ t). let e : t ≡ n = omega arith in (product_of f n, ap (λ (z : ℕ). product_of f n * f z) (sym e)))
    (cases_lt t n) where
      swap : (a b c : ℕ) → a * b * c ≡ a * c * b
      swap a b c = grind arith

-- each of the numbers divides the product
pub product_times : (f : ℕ → ℕ) (n t : ℕ) → ((j : ℕ) → 0 < f j) → t < n → product_of f n ≡ product_of f n / f t * f t
product_times f n t some l =
    let m = times_of f n t l in
    let back : product_of f n / f t ≡ m.0 = ap (λ (z : ℕ). z / f t) m.1 ∙ mul-div_cancel m.0 (some t) in
    m.1 ∙ ap (λ (z : ℕ). z * f t) (sym back)
