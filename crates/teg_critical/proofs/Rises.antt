-- How far a hold may rise, by the circuits that pass the place.
use Rattle.std.proofs.Common.{ℕ, ◌+◌, ◌*◌, ◌<◌, ◌≤◌, ◌≢◌, List, length, arith, ⊎_elim}
use Rattle.std.specs.Prelude.{All, Contains}
use Rattle.std.proofs.lemmas.Bool.{cases_lt}
use Rattle.std.proofs.Math.Nat.{mul-le-mul_right}
use Rattle.teg_net.specs.declared.entries.PlaceId.{PlaceId}
use Rattle.teg_net.specs.Nets.{NetLists}
use Rattle.teg_net.specs.Ratios.{Fraction}
use Rattle.teg_net.specs.Circuits.{IsCircuit, time_of}
use Rattle.teg_net.specs.GreatestRatios.{IsGreatestRatio, IsAnyPlace}
use Rattle.teg_certificates.specs.SlackWitnesses.{IsAboveWhenRaised, MayRise}
use Rattle.teg_critical.specs.Slacks.{raised}
use Rattle.teg_critical.proofs.Raised.{circuit_up, circuit_down, tokens_same, time_without, time_with, passes_or_not}

pub any_places : (ps : List PlaceId) → All IsAnyPlace ps
any_places ps = λ i d l. tt

module _ (net : NetLists) (r : Fraction) (p : PlaceId) (d : ℕ) (l : p.index < length net.places) where
  -- where the hold may rise so, the greatest ratio stays as it is
  pub stays : IsGreatestRatio net IsAnyPlace r → MayRise net r p d → IsGreatestRatio (raised net p d) IsAnyPlace r
  stays ratio may =
      let best = ratio.attained in
      let none : All (λ q. q.index ≢ p.index) best.0 = ⊎_elim
      (λ (passes : Contains best.0 p). absurd (let low = may.below best.0 best.1 passes in omega (arith, best.3)))
      (λ (none : All (λ q. q.index ≢ p.index) best.0). none)
      (passes_or_not p best.0) in
      record {
        some = ratio.some;
        attained = (best.0, circuit_up net p d l best.0 best.1, any_places best.0, rw (time_without net p d l best.0 none, tokens_same net p d l best.0) best.3);
        token = rw (tokens_same net p d l best.0) ratio.token;
        greatest = λ ps c all.
            let down : IsCircuit net ps = circuit_down net p d l ps c in
            ⊎_elim
            (λ (passes : Contains ps p). rw (time_with net p d l ps down passes, tokens_same net p d l ps) (may.kept ps down passes))
            (λ (none : All (λ q. q.index ≢ p.index) ps). rw (time_without net p d l ps none, tokens_same net p d l ps) (ratio.greatest ps down (any_places ps)))
            (passes_or_not p ps);
      }

  -- where one more is too much for a circuit, the greatest ratio is kept by no greater rise
  pub no_more : (ps : List PlaceId) → IsAboveWhenRaised net r p (d + 1) ps → (e : ℕ) → IsGreatestRatio (raised net p e) IsAnyPlace r → e ≤ d
  no_more ps c e other =
      ⊎_elim
      (λ (g : d < e).
      let low = rw (time_with net p e l ps c.circuit c.passes, tokens_same net p e l ps) at (other.greatest ps (circuit_up net p e l ps c.circuit) (any_places ps)) in
      let more : (time_of net ps + (d + 1)) * r.tokens ≤ (time_of net ps + e) * r.tokens = mul-le-mul_right r.tokens (omega arith) in
      let above = c.above in
      absurd (omega arith))
      (λ (g : e ≤ d). g)
      (cases_lt d e)
