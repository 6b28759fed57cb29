-- Ratios in lowest terms.
use Rattle.std.proofs.Common.{ℕ, ◌*◌, ◌/◌, ◌≤◌, ◌≡◌, ◌≢◌, ap, sym, subst, ◌∙◌, arith, ⊎_elim}
use Rattle.std.specs.Int.{◌∣◌, IsGcd}
use Rattle.std.proofs.lemmas.Bool.{cases_eq}
use Rattle.std.proofs.Math.Nat.{div-mul_cancel, mul-dvd-mul_right}
use Rattle.number_laws.proofs.Fractions.{divisor_some, divides_one}
use Rattle.teg_net.specs.Ratios.{IsRatioOf}

pub IsRatioOf-divided : (time tokens g : ℕ) → 1 ≤ tokens → IsGcd time tokens g → IsRatioOf time tokens (record { time = time / g; tokens = tokens / g })
IsRatioOf-divided time tokens g p h =
    let pg = divisor_some time tokens g p h in
    let a : time / g * g ≡ time = div-mul_cancel g h.0 in
    let b : tokens / g * g ≡ tokens = div-mul_cancel g h.1 in
    let l : time * (tokens / g) ≡ (time / g * g) * (tokens / g) = ap (λ x. x * (tokens / g)) (sym a) in
    let r : (time / g) * tokens ≡ (time / g) * (tokens / g * g) = ap (λ x. (time / g) * x) (sym b) in
    let m : (time / g * g) * (tokens / g) ≡ (time / g) * (tokens / g * g) = grind arith in
    record {
      same = l ∙ (m ∙ sym r);
      terms = record {
        some =
            ⊎_elim
            (λ (e : tokens / g ≡ 0). let z : 0 * g ≡ 0 = omega arith in let none : tokens ≡ 0 = sym b ∙ (ap (λ n. n * g) e ∙ z) in absurd (omega arith))
            (λ (ne : tokens / g ≢ 0). omega arith)
            (cases_eq (tokens / g) 0);
        lowest = λ d u w. (
            let du : d * g ∣ time = subst (λ x. d * g ∣ x) a (mul-dvd-mul_right d u g) in
            let dw : d * g ∣ tokens = subst (λ x. d * g ∣ x) b (mul-dvd-mul_right d w g) in
            divides_one d g pg (h.2 (d * g) du dw));
      };
    }
