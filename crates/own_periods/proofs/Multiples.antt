-- The least common multiple: the first multiple of the one that the other divides.
use Rattle.std.proofs.Common.{ℕ, ◌+◌, ◌*◌, ◌/◌, ◌%◌, ◌<◌, ◌≤◌, ◌≡◌, List, ap, subst, ◌∙◌, arith, mod-lt, ⊎_elim}
use Rattle.std.specs.Int.{◌∣◌}
use Rattle.std.proofs.lemmas.Bool.{cases_lt}
use Rattle.std.proofs.lemmas.Nat.Gcd.{dvd_of_mod-eq-zero, dvd_trans, mod-eq-zero_of_dvd}
use Rattle.std.proofs.Math.Nat.{div-mul_cancel, dvd-mod_iff, dvd-mul_right, mul-le-mul_left}
use Rattle.own_period_laws.specs.OwnForms.{IsLeastCommon}
use Rattle.own_periods.specs.declared.periods.OwnPeriod.{OwnPeriod}
use Rattle.own_periods.specs.OwnRows.{IsLeastMultiple, period_in}

-- where a number is above 0, and no multiple before is divided
pub first_multiple : (a b n : ℕ) → 1 ≤ a → (a * (n + 1)) % b ≡ 0 → ((j : ℕ) → 1 ≤ j → j ≤ n → (a * j) % b ≡ 0 → ⊥) → IsLeastMultiple a b (a * (n + 1))
first_multiple a b n some divided none =
    let whole : ℕ = a * (n + 1) in
    let parts : a * (n + 1) ≡ a * n + a = grind arith in
    let up : 1 ≤ a * (n + 1) = omega (arith, parts, some) in
    let first : a ∣ a * (n + 1) = dvd-mul_right a (n + 1) in
    let second : b ∣ a * (n + 1) = dvd_of_mod-eq-zero b divided in
    record {
      some = omega (arith, up);
      first = first;
      second = second;
      least = λ m u v.
          let low : m % whole < whole = mod-lt m (omega (arith, up)) in
          let by_a : a ∣ m % whole = (dvd-mod_iff a first).1 u in
          let by_b : b ∣ m % whole = (dvd-mod_iff b second).1 v in
          let j : ℕ = m % whole / a in
          let is : m % whole / a * a ≡ m % whole = div-mul_cancel a by_a in
          let turned : a * j ≡ m % whole = (let t : a * (m % whole / a) ≡ m % whole / a * a = grind arith in t ∙ is) in
          ⊎_elim
          (λ (l : 0 < m % whole).
          let zero_is : (a * j) % b ≡ 0 = ap (λ i. i % b) turned ∙ mod-eq-zero_of_dvd b by_b in
          ⊎_elim
          (λ (k : 0 < j).
          ⊎_elim
          (λ (q : n < j).
          let beyond : n + 1 ≤ j = omega (arith, q) in
          let more : a * (n + 1) ≤ a * j = mul-le-mul_left a beyond in
          absurd (omega (arith, more, turned, low)))
          (λ (q : j ≤ n). absurd (none j (omega (arith, k)) q zero_is))
          (cases_lt n j))
          (λ (k : j ≤ 0).
          let j_is : j ≡ 0 = omega (arith, k) in
          let nil : a * 0 ≡ 0 = omega arith in
          let out : a * j ≡ 0 = ap (λ i. a * i) j_is ∙ nil in
          absurd (omega (arith, out, turned, l)))
          (cases_lt 0 j))
          (λ (l : m % whole ≤ 0). dvd_of_mod-eq-zero whole (let z : m % whole ≡ 0 = omega (arith, l) in z))
          (cases_lt 0 (m % whole));
    }

-- the common multiple of one period more
pub common_more : (owns : List OwnPeriod) (n whole more : ℕ) → IsLeastCommon n (period_in owns) whole → IsLeastMultiple whole (period_in owns n) more
    → IsLeastCommon (n + 1) (period_in owns) more
common_more owns n whole more h w = record {
  at_least_one = w.some;
  common = λ t l.
      ⊎_elim
      (λ (q : t < n). dvd_trans (period_in owns t) (h.common t q) w.first)
      (λ (q : n ≤ t).
      let is : n ≡ t = omega (arith, q, l) in
      subst (λ i. period_in owns i ∣ more) is w.second)
      (cases_lt t n);
  least = λ m all. w.least m (h.least m (λ t l. all t (omega (arith, l)))) (all n (omega arith));
}
