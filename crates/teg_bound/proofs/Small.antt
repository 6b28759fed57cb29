-- The bound is below 10^24: its numbers are small, since the tokens of the greatest ratio are those of a circuit at most.
use Rattle.std.proofs.Common.{ℕ, zero, suc, ◌+◌, ◌-◌, ◌*◌, ◌/◌, ◌%◌, ◌<◌, ◌≤◌, ◌≡◌, ◌≢◌, List, arith, ⊎_elim}
use Rattle.std.specs.Int.{IsGcd}
use Rattle.std.proofs.lemmas.Bool.{cases_eq}
use Rattle.std.proofs.lemmas.Nat.Gcd.{IsGcd-from_zero, IsGcd-from_mod}
use Rattle.std.proofs.Math.Nat.{mul-le-mul, div-le_self}
use Rattle.teg_net.specs.declared.entries.PlaceId.{PlaceId}
use Rattle.teg_net.specs.Nets.{NetLists, IsNet}
use Rattle.teg_net.specs.Ratios.{Fraction, IsLowestTerms, IsRatioOf}
use Rattle.teg_net.specs.Circuits.{IsLive, time_of, tokens_of}
use Rattle.teg_net.specs.GreatestRatios.{IsGreatestRatio, IsAnyPlace}
use Rattle.teg_net.specs.Limits.{greatest_circuit_time, greatest_hold, most_circuit_tokens, most_place_tokens}
use Rattle.teg_net.proofs.LowestTerms.{IsRatioOf-divided}
use Rattle.teg_certificates.proofs.OneRatio.{one_ratio}
use Rattle.teg_certificates.proofs.Short.{circuit_sums}
use Rattle.teg_bound.specs.Readings.{AreReadingsWithin}

-- ---- the ratio

gcd_upto : (fuel a b : ℕ) → b < fuel → (g : ℕ) × IsGcd a b g
gcd_upto zero a b l = absurd (omega arith)
gcd_upto (suc fuel) a b l =
    ⊎_elim
    (λ (e : b ≡ 0). (a, IsGcd-from_zero a b e))
    (λ (ne : b ≢ 0).
    let down = gcd_upto fuel b (a % b) (omega arith) in
    (down.0, IsGcd-from_mod a b down.0 down.1))
    (cases_eq b 0)

-- a ratio in lowest terms has no more time and tokens than those of which it is the ratio
terms_small : (time tokens : ℕ) (r : Fraction) → 0 < tokens → IsRatioOf time tokens r → (r.time ≤ time) × (r.tokens ≤ tokens)
terms_small time tokens r some h =
    let g = gcd_upto (tokens + 1) time tokens (omega arith) in
    let d : ℕ = g.0 in
    let same = one_ratio time tokens r (record { time = time / d; tokens = tokens / d }) some h (IsRatioOf-divided time tokens d some g.1) in
    (omega (arith, same.0, div-le_self time d), omega (arith, same.1, div-le_self tokens d))

pub ratio_small : (net : NetLists) (r : Fraction) → IsNet net → IsLive net → IsGreatestRatio net IsAnyPlace r → IsLowestTerms r → (r.time ≤ greatest_circuit_time) × (r.tokens ≤ most_circuit_tokens)
ratio_small net r rules live h terms =
    let ps : List PlaceId = h.attained.0 in
    let sums = circuit_sums net rules ps h.attained.1 in
    let some : tokens_of net ps ≢ 0 = live ps h.attained.1 in
    let small = terms_small (time_of net ps) (tokens_of net ps) r (omega arith) (record { same = h.attained.3; terms = terms }) in
    (omega (arith, sums.0, small.0), omega (arith, sums.1, small.1))

-- ---- the number

-- what is multiplied and added on the way to the bound
pub record AreSmall (count hold tokens time per : ℕ) : Type 0 where
  pub straight : (count - 1) * tokens ≤ 399 * most_place_tokens
  pub product : count * tokens * (per * ((count - 1) * hold) + time * ((count - 1) * tokens + count * tokens))
      ≤ most_circuit_tokens * (most_circuit_tokens * (399 * greatest_hold) + greatest_circuit_time * 799000)

pub are_small : {count hold tokens time per : ℕ} → AreReadingsWithin count hold tokens time per → AreSmall count hold tokens time per
are_small {count} {hold} {tokens} {time} {per} h =
    let less : count - 1 ≤ 399 = (let l = h.count_in in omega arith) in
    let straight : (count - 1) * tokens ≤ 399 * most_place_tokens = mul-le-mul less h.tokens_in in
    let around : count * tokens ≤ most_circuit_tokens = mul-le-mul h.count_in h.tokens_in in
    let path : (count - 1) * hold ≤ 399 * greatest_hold = mul-le-mul less h.hold_in in
    let both : (count - 1) * tokens + count * tokens ≤ 799000 = omega arith in
    let gain : per * ((count - 1) * hold) ≤ most_circuit_tokens * (399 * greatest_hold) = mul-le-mul h.per_in path in
    let cost : time * ((count - 1) * tokens + count * tokens) ≤ greatest_circuit_time * 799000 = mul-le-mul h.time_in both in
    let sum : per * ((count - 1) * hold) + time * ((count - 1) * tokens + count * tokens) ≤ most_circuit_tokens * (399 * greatest_hold) + greatest_circuit_time * 799000 = omega arith in
    record { straight = straight; product = mul-le-mul around sum }
