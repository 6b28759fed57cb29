-- Divisors, and fractions in lowest terms.
use Rattle.std.proofs.Common.{ℕ, zero, suc, ◌+◌, ◌*◌, ◌/◌, ◌%◌, ◌<◌, ◌≤◌, ◌≡◌, ◌≢◌, sym, ap, subst, ◌∙◌, arith, ⊎_elim}
use Rattle.std.specs.Int.{◌∣◌, IsGcd}
use Rattle.std.proofs.lemmas.Bool.{cases_lt, cases_eq}
use Rattle.std.proofs.lemmas.Nat.{div-add-mod'}
use Rattle.std.proofs.lemmas.Nat.Gcd.{dvd_refl, dvd_of_mod-eq-zero, le_of_dvd}
use Rattle.std.proofs.Math.Nat.{div-mul_cancel, dvd-mul_left, mul-le-mul_right}

-- what is multiplied by 0 is 0
zero_times : (a b c : ℕ) → a * b ≡ c → b ≡ 0 → c ≡ 0
zero_times a b c h e = let z : a * 0 ≡ 0 = omega arith in sym h ∙ (ap (λ n. a * n) e ∙ z)

-- the common divisor is not 0
pub divisor_some : (time tokens g : ℕ) → 1 ≤ tokens → IsGcd time tokens g → 0 < g
divisor_some time tokens g p h =
    ⊎_elim
    (λ (e : g ≡ 0). let none : tokens ≡ 0 = zero_times (tokens / g) g tokens (div-mul_cancel g h.1) e in absurd (omega arith))
    (λ (ne : g ≢ 0). omega arith)
    (cases_eq g 0)

-- a number whose product with g divides g is 1
pub divides_one : (d g : ℕ) → 0 < g → d * g ∣ g → d ≡ 1
divides_one d g p h =
    let l : d * g ≤ g = le_of_dvd p h in
    ⊎_elim
    (λ (e : d ≡ 0).
    let none : d * g ≡ 0 = (let z : 0 * g ≡ 0 = omega arith in ap (λ n. n * g) e ∙ z) in
    let zero_g : g ≡ 0 = zero_times (g / (d * g)) (d * g) g (div-mul_cancel (d * g) h) none in
    absurd (omega arith))
    (λ (ne : d ≢ 0).
    ⊎_elim
    (λ (m : 1 < d). let wide : 2 * g ≤ d * g = mul-le-mul_right g m in absurd (omega arith))
    (λ (m : d ≤ 1). omega arith)
    (cases_lt 1 d))
    (cases_eq d 0)

-- 1 alone divides both
pub record Coprime (a b : ℕ) : Type 0 where
  pub only : (d : ℕ) → d ∣ a → d ∣ b → d ≡ 1

-- what divides b and the rest of a divides a
divides_back : (a b d : ℕ) → d ∣ b → d ∣ (a % b) → d ∣ a
divides_back a b d u w =
    let x : b / d * d ≡ b = div-mul_cancel d u in
    let y : (a % b) / d * d ≡ a % b = div-mul_cancel d w in
    let whole : a / b * b + a % b ≡ a = div-add-mod' a b in
    let e : (a / b * (b / d) + (a % b) / d) * d ≡ a / b * (b / d * d) + (a % b) / d * d = grind arith in
    let f : (a / b * (b / d) + (a % b) / d) * d ≡ a = e ∙ (ap (λ z. a / b * z + (a % b) / d * d) x ∙ (ap (λ z. a / b * b + z) y ∙ whole)) in
    subst (λ z. d ∣ z) f (dvd-mul_left d (a / b * (b / d) + (a % b) / d))

coprime_down : (a b : ℕ) → Coprime a b → Coprime b (a % b)
coprime_down a b h = record { only = λ d u w. h.only d (divides_back a b d u w) u }

-- the whole part of equal fractions is one
whole_part : (a b c d : ℕ) → 0 < b → 0 < d → a * d ≡ c * b → a / b ≤ c / d
whole_part a b c d pb pd e =
    let x : a / b * b + a % b ≡ a = div-add-mod' a b in
    let y : c / d * d + c % d ≡ c = div-add-mod' c d in
    let less : c % d < d = omega arith in
    ⊎_elim
    (λ (q : c / d < a / b).
    let m : (c / d + 1) * (b * d) ≤ (a / b) * (b * d) = mul-le-mul_right (b * d) (let l : c / d + 1 ≤ a / b = omega arith in l) in
    let n : (a / b * b) * d ≤ a * d = mul-le-mul_right d (let l : a / b * b ≤ a = omega arith in l) in
    let o : (c % d + 1) * b ≤ d * b = mul-le-mul_right b (let l : c % d + 1 ≤ d = omega arith in l) in
    let c_is : c * b ≡ (c / d * d) * b + (c % d) * b = ap (λ z. z * b) (sym y) ∙ (let g : (c / d * d + c % d) * b ≡ (c / d * d) * b + (c % d) * b = grind arith in g) in
    absurd (grind (arith, m, n, o, c_is, e)))
    (λ (q : a / b ≤ c / d). q)
    (cases_lt (c / d) (a / b))

zero_factor : (x y : ℕ) → 0 < y → x * y ≡ 0 → x ≡ 0
zero_factor x y p e =
    ⊎_elim
    (λ (z : x ≡ 0). z)
    (λ (nz : x ≢ 0). let m : 1 * y ≤ x * y = mul-le-mul_right y (let l : 1 ≤ x = omega arith in l) in absurd (omega arith))
    (cases_eq x 0)

-- equal fractions in lowest terms are one
pub one_fraction : (n a b c d : ℕ) → b ≤ n → 0 < b → 0 < d → Coprime a b → Coprime c d → a * d ≡ c * b → (a ≡ c) × (b ≡ d)
one_fraction zero a b c d l pb pd h g e = absurd (omega arith)
one_fraction (suc n) a b c d l pb pd h g e =
    let k : ℕ = a / b in
    let up = whole_part a b c d pb pd e in
    let down = whole_part c d a b pd pb (sym e) in
    let same : c / d ≡ k = omega arith in
    let x : k * b + a % b ≡ a = div-add-mod' a b in
    let y : k * d + c % d ≡ c = subst (λ z. z * d + c % d ≡ c) same (div-add-mod' c d) in
    -- the rests are in the same proportion
    let a_is : a * d ≡ k * b * d + (a % b) * d = ap (λ z. z * d) (sym x) ∙ (let f : (k * b + a % b) * d ≡ k * b * d + (a % b) * d = grind arith in f) in
    let c_is : c * b ≡ k * d * b + (c % d) * b = ap (λ z. z * b) (sym y) ∙ (let f : (k * d + c % d) * b ≡ k * d * b + (c % d) * b = grind arith in f) in
    let mid : k * b * d ≡ k * d * b = grind arith in
    let rest : (a % b) * d ≡ (c % d) * b = omega arith in
    let small : a % b < b = omega arith in
    ⊎_elim
    (λ (z : a % b ≡ 0).
    let cz : (c % d) * b ≡ 0 = sym rest ∙ (ap (λ w. w * d) z ∙ (let f : 0 * d ≡ 0 = omega arith in f)) in
    let cd : c % d ≡ 0 = zero_factor (c % d) b pb cz in
    let b1 : b ≡ 1 = h.only b (dvd_of_mod-eq-zero b z) (dvd_refl b) in
    let d1 : d ≡ 1 = g.only d (dvd_of_mod-eq-zero d cd) (dvd_refl d) in
    let kb : k * b ≡ k = ap (λ w. k * w) b1 ∙ (let f : k * 1 ≡ k = omega arith in f) in
    let kd : k * d ≡ k = ap (λ w. k * w) d1 ∙ (let f : k * 1 ≡ k = omega arith in f) in
    (omega arith, omega arith))
    (λ (nz : a % b ≢ 0).
    let pa : 0 < a % b = omega arith in
    let pc : 0 < c % d = ⊎_elim (λ (w : c % d ≡ 0). absurd
    (nz (zero_factor (a % b) d pd (rest ∙ (ap (λ z. z * b) w ∙ (let f : 0 * b ≡ 0 = omega arith in f))))))
    (λ (w : c % d ≢ 0). let r : 0 < c % d = omega arith in r) (cases_eq (c % d) 0) in
    let turned : b * (c % d) ≡ d * (a % b) = grind (arith, rest) in
    let r = one_fraction n b (a % b) d (c % d) (omega arith) pa pc (coprime_down a b h) (coprime_down c d g) turned in
    let bd : b ≡ d = r.0 in
    let ac : a % b ≡ c % d = r.1 in
    let kk : k * b ≡ k * d = ap (λ z. k * z) bd in
    (omega arith, bd))
    (cases_eq (a % b) 0)
