-- Circuits have their time in a timetable that the net can keep.
use Rattle.std.proofs.Common.{ℕ, ◌+◌, ◌*◌, ◌<◌, ◌≤◌, ◌≡◌, List, [], ◌∷◌, length, ap, arith, ⊎_elim}
use Rattle.std.proofs.lemmas.Bool.{cases_lt}
use Rattle.std.proofs.lemmas.List.Sums.{sum_by-cons}
use Rattle.std.proofs.Math.Nat.{mul-le-mul_right}
use Rattle.teg_model.specs.teg_net.declared.entries.PlaceId.{PlaceId}
use Rattle.teg_model.specs.teg_net.Nets.{NetLists}
use Rattle.teg_model.specs.teg_net.Ratios.{Fraction}
use Rattle.teg_model.specs.teg_net.Parts.{to_of}
use Rattle.teg_model.specs.teg_net.Circuits.{place_at, no_place, from_of, IsPathBetween, IsCircuit, IsLive, time_of, tokens_of}
use Rattle.teg_model.specs.teg_net.GreatestRatios.{IsGreatestRatio, IsAnyPlace}
use Rattle.delay_laws.specs.PlannedTimetables.{first_planned}
use Rattle.workable_laws.specs.WorkablePeriods.{LeavesCircuitsTime, WorkablePeriodsLeaveTime, WorkablePeriodsAreAboveRatios}
use Rattle.pace_laws.proofs.Slower.{cancel}

-- first dates that leave time for each place leave time for each path
pub along : (net : NetLists) (period : ℕ) (f : ℕ → ℕ) → ((p : PlaceId) → p.index < length net.places → f (from_of net p) + (place_at net p).hold ≤ f (to_of net p) + period * (place_at net p).tokens)
    → (ps : List PlaceId) (a b : ℕ) → IsPathBetween net a ps b → f a + time_of net ps ≤ f b + period * tokens_of net ps
along net period f h [] a b l = let e : f a ≡ f b = ap f l in omega arith
along net period f h (p ∷ ps) a b l =
    let here = h p l.0 in
    let rest = along net period f h ps (to_of net p) b l.2 in
    let from : f (from_of net p) ≡ f a = ap f l.1 in
    let one = sum_by-cons (λ q. (place_at net q).hold) p ps in
    let two = sum_by-cons (λ q. (place_at net q).tokens) p ps in
    let three : period * tokens_of net (p ∷ ps) ≡ period * (place_at net p).tokens + period * tokens_of net ps = rw two (grind arith) in
    omega arith

pub leave_time : WorkablePeriodsLeaveTime
leave_time net period t h ps c =
    let a : ℕ = c.closed.0 in
    let l = along net period (first_planned t) (λ p m. (h p.index no_place m).leaves_time) ps a a c.closed.1 in
    omega arith

pub ratio_below : (net : NetLists) (period : ℕ) (r : Fraction) → IsLive net → LeavesCircuitsTime net period → IsGreatestRatio net IsAnyPlace r → r.time ≤ period * r.tokens
ratio_below net period r live time g =
    let ps : List PlaceId = g.attained.0 in
    let c : IsCircuit net ps = g.attained.1 in
    let some : 0 < tokens_of net ps = ⊎_elim (λ (l : 0 < tokens_of net ps). l) (λ (l : tokens_of net ps ≤ 0). absurd (live ps c (omega arith))) (cases_lt 0 (tokens_of net ps)) in
    by_numbers (time_of net ps) (tokens_of net ps) r.time r.tokens period some (time ps c) g.attained.3 where
      by_numbers : (time tokens a b period : ℕ) → 0 < tokens → time ≤ period * tokens → time * b ≡ a * tokens → a ≤ period * b
      by_numbers time tokens a b period some less is =
          let one : time * b ≤ period * tokens * b = mul-le-mul_right b less in
          let two : period * tokens * b ≡ period * b * tokens = grind arith in
          cancel a (period * b) tokens some (omega arith)

pub above_ratios : WorkablePeriodsAreAboveRatios
above_ratios net period t r live h g = ratio_below net period r live (leave_time net period t h) g
