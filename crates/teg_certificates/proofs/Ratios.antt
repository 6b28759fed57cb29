-- Ratios, and which is greater.
use Rattle.std.proofs.Common.{ℕ, ◌+◌, ◌*◌, ◌<◌, ◌≤◌, arith, ⊎_elim}
use Rattle.std.proofs.lemmas.Bool.{cases_lt}
use Rattle.std.proofs.Math.Nat.{mul-le-mul_right, le_of_mul-le-mul_right}

-- a ratio at most another that is at most a third
pub ratio_trans : (t1 k1 t2 k2 t3 k3 : ℕ) → 0 < k2 → t1 * k2 ≤ t2 * k1 → t2 * k3 ≤ t3 * k2 → t1 * k3 ≤ t3 * k1
ratio_trans t1 k1 t2 k2 t3 k3 p a b =
    let m : t1 * k2 * k3 ≤ t2 * k1 * k3 = mul-le-mul_right k3 a in
    let n : t2 * k3 * k1 ≤ t3 * k2 * k1 = mul-le-mul_right k1 b in
    let all : t1 * k3 * k2 ≤ t3 * k1 * k2 = grind (arith, m, n) in
    le_of_mul-le-mul_right all p

pub ratio_trans_less : (t1 k1 t2 k2 t3 k3 : ℕ) → 0 < k2 → 0 < k1 → t1 * k2 ≤ t2 * k1 → t2 * k3 < t3 * k2 → t1 * k3 < t3 * k1
ratio_trans_less t1 k1 t2 k2 t3 k3 p q a b =
    let m : t1 * k2 * k3 ≤ t2 * k1 * k3 = mul-le-mul_right k3 a in
    let n : (t2 * k3 + 1) * k1 ≤ t3 * k2 * k1 = mul-le-mul_right k1 (let l : t2 * k3 + 1 ≤ t3 * k2 = omega arith in l) in
    ⊎_elim
    (λ (l : t1 * k3 < t3 * k1). l)
    (λ (l : t3 * k1 ≤ t1 * k3). let o : t3 * k1 * k2 ≤ t1 * k3 * k2 = mul-le-mul_right k2 l in absurd (grind (arith, m, n, o)))
    (cases_lt (t1 * k3) (t3 * k1))
