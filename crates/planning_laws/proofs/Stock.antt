-- Tokens that wait at one date have numbers near each other just where each is taken before a later one is there.
use Rattle.std.proofs.Common.{ℕ, ◌+◌, ◌-◌, ◌<◌, ◌≤◌, ◌≡◌, ◌⊎◌, inl, inr, length, subst, arith, ⊎_elim}
use Rattle.std.specs.Prelude.{◌≤ℤ◌}
use Rattle.std.proofs.lemmas.Bool.{cases_lt}
use Rattle.std.proofs.lemmas.Int.{ints, by_lt_z}
use Rattle.teg_model.specs.dioid.declared.dates.Date.{Date}
use Rattle.teg_model.specs.dioid.declared.dates.Date.TheVariants.{Early, At, Never}
use Rattle.teg_model.specs.dioid.Dates.{IsAtMostDate, delayed}
use Rattle.teg_model.proofs.dioid_proofs.DateOrder.{at_most_refl, at_most_trans, delayed_rises}
use Rattle.teg_model.specs.teg_net.declared.entries.PlaceId.{PlaceId}
use Rattle.teg_model.specs.teg_net.declared.entries.Place.{Place}
use Rattle.teg_model.specs.teg_net.Nets.{NetLists}
use Rattle.teg_model.specs.teg_net.Circuits.{no_place, place_at, from_of}
use Rattle.teg_model.specs.teg_net.Parts.{to_of}
use Rattle.teg_model.specs.LiveRanks.{HasEndsInRange}
use Rattle.teg_model.specs.Datings.{IsFeasibleUnder}
use Rattle.teg_model.proofs.DateFunctions.{Dating}
use Rattle.dating_laws.proofs.SlowerNets.{climb}
use Rattle.planning_laws.specs.Stability.{HoldsAtMost, IsWaitingAt, StockIsWhatWaits}

-- a date is at most another or not
at_most_or_not : (a b : Date) → IsAtMostDate a b ⊎ (IsAtMostDate a b → ⊥)
at_most_or_not Early b = inl tt
at_most_or_not (At s) Early = inr (λ h. h)
at_most_or_not (At s) (At t) = by_lt_z t s (λ h. inr (λ (l : s ≤ℤ t). absurd (omega (arith, ints, h, l)))) (λ (h : s ≤ℤ t). inl h)
at_most_or_not (At s) Never = inl tt
at_most_or_not Never Early = inr (λ h. h)
at_most_or_not Never (At t) = inr (λ h. h)
at_most_or_not Never Never = inl tt

module _ (net : NetLists) (ends : HasEndsInRange net) (u x : Dating) (f : IsFeasibleUnder net u x) (p : PlaceId) (in' : p.index < length net.places) (most : ℕ) where
  abbrev place : Place
  place = place_at net p

  from_climbs : (j k : ℕ) → 1 ≤ k → k ≤ j → IsAtMostDate (x (from_of net p) k) (x (from_of net p) j)
  from_climbs j k one up =
      let is : k + (j - k) ≡ j = omega (arith, up) in
      subst (λ n. IsAtMostDate (x (from_of net p) k) (x (from_of net p) n)) is (climb net u x f (from_of net p) k (ends p.index no_place in').0 one (j - k))

  to_climbs : (j k : ℕ) → 1 ≤ k → k ≤ j → IsAtMostDate (x (to_of net p) k) (x (to_of net p) j)
  to_climbs j k one up =
      let is : k + (j - k) ≡ j = omega (arith, up) in
      subst (λ n. IsAtMostDate (x (to_of net p) k) (x (to_of net p) n)) is (climb net u x f (to_of net p) k (ends p.index no_place in').1 one (j - k))

  near : HoldsAtMost x place most → (date : Date) (j k : ℕ) → IsWaitingAt x place date j → IsWaitingAt x place date k → j < k + most
  near h date j k wj wk = ⊎_elim
      (λ (l : j < k + most). l)
      (λ (far : k + most ≤ j).
      let one = wk.some in
      let on : 1 ≤ k + most = omega (arith, one) in
      let a : Date = delayed place.hold (x (from_of net p) (k + most)) in
      let b : Date = delayed place.hold (x (from_of net p) j) in
      let rises : IsAtMostDate a b = delayed_rises place.hold (x (from_of net p) (k + most)) (x (from_of net p) j) (from_climbs j (k + most) on far) in
      absurd (wk.not_taken (at_most_trans (x (to_of net p) (k + place.tokens)) a date (h k one) (at_most_trans a b date rises wj.there))))
      (cases_lt j (k + most))

  taken : ((date : Date) (j k : ℕ) → IsWaitingAt x place date j → IsWaitingAt x place date k → j < k + most) → HoldsAtMost x place most
  taken h k one =
      let j : ℕ = k + most in
      let on : 1 ≤ j = omega (arith, one) in
      let date : Date = delayed place.hold (x (from_of net p) j) in
      let first : Date = x (to_of net p) (k + place.tokens) in
      ⊎_elim
      (λ (l : IsAtMostDate first date). l)
      (λ (n : IsAtMostDate first date → ⊥).
      let up : k ≤ j = omega arith in
      let there : IsAtMostDate (delayed place.hold (x (from_of net p) k)) date = delayed_rises place.hold (x (from_of net p) k) (x (from_of net p) j) (from_climbs j k one up) in
      let later : IsAtMostDate first (x (to_of net p) (j + place.tokens)) = to_climbs (j + place.tokens) (k + place.tokens) (omega (arith, one)) (omega (arith, up)) in
      let wk : IsWaitingAt x place date k = record { some = one; there = there; not_taken = n } in
      let wj : IsWaitingAt x place date j = record { some = on; there = at_most_refl date; not_taken = λ l. n (at_most_trans first (x (to_of net p) (j + place.tokens)) date later l) } in
      let less = h date j k wj wk in
      absurd (omega (arith, less)))
      (at_most_or_not first date)

pub stock_waits : StockIsWhatWaits
stock_waits net ends u x f p in' most = (near net ends u x f p in' most, taken net ends u x f p in' most)
