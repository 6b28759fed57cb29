-- A ratio has one form in lowest terms.
use Rattle.std.proofs.Common.{ℕ, ◌*◌, ◌<◌, ◌≤◌, ◌≡◌, ap, arith}
use Rattle.std.proofs.Math.Nat.{le_of_mul-le-mul_right}
use Rattle.teg_net.proofs.number_laws_proofs.Fractions.{one_fraction}
use Rattle.teg_net.specs.Ratios.{Fraction, IsRatioOf}

pub one_ratio : (time tokens : ℕ) (r q : Fraction) → 0 < tokens → IsRatioOf time tokens r → IsRatioOf time tokens q → (r.time ≡ q.time) × (r.tokens ≡ q.tokens)
one_ratio time tokens r q p h k =
    let a : (time * r.tokens) * q.tokens ≡ (r.time * tokens) * q.tokens = ap (λ z. z * q.tokens) h.same in
    let b : (time * q.tokens) * r.tokens ≡ (q.time * tokens) * r.tokens = ap (λ z. z * r.tokens) k.same in
    let low : (r.time * q.tokens) * tokens ≤ (q.time * r.tokens) * tokens = grind (arith, a, b) in
    let high : (q.time * r.tokens) * tokens ≤ (r.time * q.tokens) * tokens = grind (arith, a, b) in
    let one : r.time * q.tokens ≤ q.time * r.tokens = le_of_mul-le-mul_right low p in
    let two : q.time * r.tokens ≤ r.time * q.tokens = le_of_mul-le-mul_right high p in
    one_fraction r.tokens r.time r.tokens q.time q.tokens (omega arith) h.terms.some k.terms.some (record { only = h.terms.lowest }) (record { only = k.terms.lowest }) (omega arith)
