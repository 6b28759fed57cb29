-- A circuit of greatest ratio, and what a period leaves it.
use Rattle.std.proofs.Common.{ℕ, ◌+◌, ◌*◌, ◌<◌, ◌≤◌, ◌≡◌, List, Some, ap, subst, arith, ⊎_elim}
use Rattle.std.proofs.Math.Nat.{mul-le-mul_left, mul-le-mul_right, le_of_mul-le-mul_left}
use Rattle.std.proofs.lemmas.Bool.{cases_lt}
use Rattle.teg_net.specs.declared.entries.PlaceId.{PlaceId}
use Rattle.teg_net.specs.declared.answers.Potential.{Potential}
use Rattle.teg_net.specs.declared.answers.PartAnswer.{PartAnswer}
use Rattle.teg_net.specs.Nets.{NetLists}
use Rattle.teg_net.specs.Ratios.{Fraction}
use Rattle.teg_net.specs.Circuits.{no_place, time_of, tokens_of}
use Rattle.teg_net.specs.PartAnswers.{IsBestOfPart}
use Rattle.teg_net.specs.GreatestRatios.{IsGreatestRatio, IsAnyPlace, ratio_at, IsCycleTime}
use Rattle.timetable_calls.specs.declared.longest.Busiest.{Busiest}
use Rattle.timetable_calls.specs.Earliest.{IsBusiestOf}
use Rattle.timetable_calls.specs.FractionPeriods.{IsTooShortAt, LeavesCircuitsTimeAt}
use Rattle.timetable_calls.proofs.Along.{along}

-- the answer of the part of greatest ratio
pub best_is : (net : NetLists) (part_of : List ℕ) (parts : List PartAnswer) (k : ℕ) (b : Busiest) → IsCycleTime net parts (Some k) → ratio_at parts k ≡ Some b.ratio
    → (vs : List Potential) → IsBestOfPart net part_of k b.ratio b.circuit.places.items vs → IsBusiestOf net b
best_is net part_of parts k b cycle told vs own =
    let same : cycle.0 ≡ b.ratio = cc (cycle.1, told) in
    record { greatest = subst (IsGreatestRatio net IsAnyPlace) same cycle.2; circuit = own.circuit; lowest = own.lowest_first; token = own.token; attains = own.attains }

-- it is too long for a period that does not give its ratio the time
pub too_short : (net : NetLists) (scale period : ℕ) (b : Busiest) → IsBusiestOf net b → period * b.ratio.tokens < scale * b.ratio.time → IsTooShortAt net scale period b.circuit.places.items
too_short net scale period b h less =
    let ps : List PlaceId = b.circuit.places.items in
    let longer : period * tokens_of net ps < scale * time_of net ps = by_numbers (time_of net ps) (tokens_of net ps) b.ratio.time b.ratio.tokens scale period h.token h.attains less in
    record {
      circuit = h.circuit;
      lowest = h.lowest;
      longer = longer;
      none = λ f w.
          let a : ℕ = h.circuit.closed.0 in
          let l = along net scale period f (λ p m. (w p.index no_place m).leaves_time) ps a a h.circuit.closed.1 in
          absurd (omega arith);
    } where
      by_numbers : (time tokens a b scale period : ℕ) → 1 ≤ tokens → time * b ≡ a * tokens → period * b < scale * a → period * tokens < scale * time
      by_numbers time tokens a b scale period some is less = ⊎_elim
          (λ (l : period * tokens < scale * time). l)
          (λ (l : scale * time ≤ period * tokens).
          let one : scale * time * b ≤ period * tokens * b = mul-le-mul_right b l in
          let two : (period * b + 1) * tokens ≤ scale * a * tokens = mul-le-mul_right tokens (omega (arith, less)) in
          let three : scale * (time * b) ≡ scale * (a * tokens) = ap (λ z. scale * z) is in
          absurd (omega (arith, one, two, three, some)))
          (cases_lt (period * tokens) (scale * time))

-- a period that gives the greatest ratio its time gives it to each circuit
pub from_ratio_at :
    (net : NetLists) (scale period : ℕ) (r : Fraction) → IsGreatestRatio net IsAnyPlace r → scale * r.time ≤ period * r.tokens → LeavesCircuitsTimeAt net scale period
from_ratio_at net scale period r g h ps c = by_numbers (time_of net ps) (tokens_of net ps) r.time r.tokens scale period g.some h (g.greatest ps c (λ i d l. tt)) where
  by_numbers : (time tokens a b scale period : ℕ) → 1 ≤ b → scale * a ≤ period * b → time * b ≤ a * tokens → scale * time ≤ period * tokens
  by_numbers time tokens a b scale period some h less =
      let one : scale * a * tokens ≤ period * b * tokens = mul-le-mul_right tokens h in
      let two : scale * (time * b) ≤ scale * (a * tokens) = mul-le-mul_left scale less in
      let all : b * (scale * time) ≤ b * (period * tokens) = omega (arith, one, two) in
      le_of_mul-le-mul_left all some
