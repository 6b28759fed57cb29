-- Steps of a on places below w: from each place some of the first steps, fewer than lead back to it, comes below w over their number.
use Rattle.std.proofs.Common.{◌≡◌, refl, ap, arith, ℕ, zero, suc, ◌+◌, ◌*◌, ◌-◌, ◌/◌, ◌%◌, ◌≤◌, ◌<◌, sym, ◌∙◌, ⊎_elim, cond, ltb, eqb}
use Rattle.std.proofs.lemmas.Bool.Decides.{nat_tests}
use Rattle.std.proofs.lemmas.Nat.{mod_below, div-add-mod', div_below}
use Rattle.std.proofs.Math.Nat.{le_of_mul-le-mul_right, mod-mod_of_dvd, add-mul-mod_self_right, dvd-mul_left, eq-or-lt_of_le, mul-mod_left}
use Rattle.series_laws.proofs.number_laws_proofs.Numbers.{zero_test}
use Rattle.series_laws.specs.Needs.{turns_of, common}
use Rattle.series_laws.proofs.FormValues.{first_ge, first_le}
use Rattle.series_laws.proofs.Sums.{common_second}
use Rattle.series_laws.proofs.number_laws_proofs.Pigeons.{pigeons, difference}

-- no fewer turns of a are a multiple of w
pub turns_least : (a w m q : ℕ) → 0 < w → 0 < m → m * a ≡ q * w → turns_of a w ≤ m
turns_least a w m q some more e =
    first_le (λ k. eqb (k * a % w) 0) 1 (w - 1) m more (zero_test (m * a % w) (ap (λ (z : ℕ). z % w) e ∙ mul-mod_left q w))

pub turns_some : (a w : ℕ) → 0 < turns_of a w
turns_some a w = first_ge (λ m. eqb (m * a % w) 0) 1 (w - 1)

-- a product that is as great has an equal factor
same_factor : (n x y : ℕ) → 0 < n → x * n ≡ y * n → x ≡ y
same_factor n x y some e =
    let up : x ≤ y = le_of_mul-le-mul_right (omega arith) some in
    let down : y ≤ x = le_of_mul-le-mul_right (omega arith) some in
    omega arith

-- the turns divide w, and a by w over them
module _ (a w q : ℕ) (some_a : 0 < a) (some_w : 0 < w) where
  rest : (k s : ℕ) → turns_of a w * a ≡ q * w → k * turns_of a w + s ≡ w → s < turns_of a w → s ≡ 0
  rest k zero round whole low = refl
  rest k (suc s) round whole low =
      let t : ℕ = turns_of a w in
      let e : (k * t + suc s) * a ≡ w * a = ap (λ (z : ℕ). z * a) whole in
      let f : k * (t * a) ≡ k * (q * w) = ap (λ (z : ℕ). k * z) round in
      let g : suc s * a + k * q * w ≡ a * w = omega arith in
      let fewer : k * q ≤ a = le_of_mul-le-mul_right (omega arith) some_w in
      let d : ℕ = a - k * q in
      let split : a ≡ k * q + d = omega arith in
      let h : a * w ≡ (k * q + d) * w = ap (λ (z : ℕ). z * w) split in
      let m : suc s * a ≡ d * w = omega arith in
      absurd (let l : turns_of a w ≤ suc s = turns_least a w (suc s) d some_w (omega arith) m in omega arith)

pub turns_divide : (a w : ℕ) → 0 < a → 0 < w → w / turns_of a w * turns_of a w ≡ w
turns_divide a w some_a some_w =
    let t : ℕ = turns_of a w in
    let some : 0 < t = turns_some a w in
    let round : t * a ≡ common a w / w * w = sym (common_second a w some_w) in
    let e : w / t * t + w % t ≡ w = div-add-mod' w t in
    let none : w % t ≡ 0 = rest a w (common a w / w) some_a some_w (w / t) (w % t) round e (mod_below w t some) in
    omega arith

-- some step, before the steps lead back, comes below w over their number
pub comes_low : (a w r : ℕ) → 0 < a → 0 < w → (m : ℕ) × (m < turns_of a w) × ((r + m * a) % w < w / turns_of a w)
comes_low a w r some_a some_w =
    let n : ℕ = turns_of a w in
    let d : ℕ = w / n in
    let q : ℕ = common a w / w in
    let some : 0 < n = turns_some a w in
    let whole : d * n ≡ w = turns_divide a w some_a some_w in
    let some_d : 0 < d = positive d n whole in
    let round : n * a ≡ q * w = sym (common_second a w some_w) in
    let over : q * (d * n) ≡ q * w = ap (λ (z : ℕ). q * z) whole in
    let by : a ≡ q * d = same_factor n a (q * d) some (omega arith) in
    let place : ℕ → ℕ = λ i. (r + i * a) % w in
    let f : ℕ → ℕ = λ i. cond (ltb i n) (place i / d) 0 in
    let low : (i : ℕ) → i ≤ n → f i < n = λ i l. below i n (place i / d) some (div_below (place i) d n some_d (let b : place i < w = mod_below (r + i * a) w some_w in omega arith)) in
    let p : (i : ℕ) × (j : ℕ) × (i < j) × (j ≤ n) × (f i ≡ f j) = pigeons n f low in
    let i : ℕ = p.0 in
    let j : ℕ = p.1 in
    let ij : i < j = p.2 in
    let at_i : f i ≡ place i / d = inside i n (place i / d) (omega arith) in
    ⊎_elim
    (λ last. (i, omega arith, first_part (place i) d some_d (sym at_i ∙ p.4 ∙ ap f last ∙ outside n (place n / d))))
    (λ less.
    let quotients : place i / d ≡ place j / d = sym at_i ∙ p.4 ∙ inside j n (place j / d) less in
    let rests : place i % d ≡ place j % d = rest_of i q d by whole ∙ sym (rest_of j q d by whole) in
    let same : place i ≡ place j = same_parts (place i) (place j) d quotients rests in
    let more : ℕ = j - i in
    let onward : r + j * a ≡ r + i * a + more * a = let s : j ≡ i + more = omega arith in let t : j * a ≡ (i + more) * a = ap (λ (z : ℕ). z * a) s in omega arith in
    let t : (k : ℕ) × (more * a ≡ k * w) = difference (r + i * a) (more * a) w some_w (same ∙ ap (λ (z : ℕ). z % w) onward) in
    absurd (let l : turns_of a w ≤ more = turns_least a w more t.0 some_w (omega arith) t.1 in omega arith))
    (eq-or-lt_of_le {n = j} {m = n} p.3) where
      positive : (d n : ℕ) → d * n ≡ w → 0 < d
      positive zero n e = absurd (omega arith)
      positive (suc d) n e = omega arith

      below : (i n x : ℕ) → 0 < n → x < n → cond (ltb i n) x 0 < n
      below i n x some h = grind (arith, nat_tests)

      inside : (i n x : ℕ) → i < n → cond (ltb i n) x 0 ≡ x
      inside i n x h = grind (arith, nat_tests)

      outside : (n x : ℕ) → cond (ltb n n) x 0 ≡ 0
      outside n x = grind (arith, nat_tests)

      first_part : (x d : ℕ) → 0 < d → x / d ≡ 0 → x < d
      first_part x d some h =
          let e : x / d * d + x % d ≡ x = div-add-mod' x d in
          let b : x % d < d = mod_below x d some in
          let z : x / d * d ≡ 0 * d = ap (λ (z : ℕ). z * d) h in
          omega arith

      same_parts : (x y d : ℕ) → x / d ≡ y / d → x % d ≡ y % d → x ≡ y
      same_parts x y d h k = sym (div-add-mod' x d) ∙ ap (λ (z : ℕ). z * d + x % d) h ∙ ap (λ (z : ℕ). y / d * d + z) k ∙ div-add-mod' y d

      -- d divides w and a, so a step leaves the rest by d as it is
      rest_of : (i q d : ℕ) → a ≡ q * d → d * turns_of a w ≡ w → (r + i * a) % w % d ≡ r % d
      rest_of i q d by whole =
          let turned : turns_of a w * d ≡ w = omega arith in
          let inner : (r + i * a) % (turns_of a w * d) % d ≡ (r + i * a) % d = mod-mod_of_dvd d (r + i * a) (dvd-mul_left d (turns_of a w)) in
          let step : r + i * a ≡ r + i * q * d = let s : i * a ≡ i * (q * d) = ap (λ (z : ℕ). i * z) by in omega arith in
          ap (λ (z : ℕ). (r + i * a) % z % d) (sym turned) ∙ inner ∙ ap (λ (z : ℕ). z % d) step ∙ add-mul-mod_self_right r (i * q) d
