-- The dates of a net whose transitions reach each other, whose circuits take no time and whose tokens are ready at 0 are all 0.
use Rattle.std.proofs.Common.{ℕ, ◌+◌, ◌-◌, ◌*◌, ◌<◌, ◌≤◌, ◌≡◌, List, [], ◌∷◌, length, get_or, refl, ap, arith, ⊎_elim}
use Rattle.std.specs.Prelude.{pos, All, sum_by}
use Rattle.std.proofs.lemmas.Bool.{cases_lt}
use Rattle.std.proofs.lemmas.Int.{ints}
use Rattle.std.proofs.lemmas.List.{get_or_default, get_or_past}
use Rattle.std.proofs.lemmas.List.Sums.{sum_by-cons, sum_by-le}
use Rattle.teg_model.specs.dioid.declared.dates.Date.TheVariants.{At}
use Rattle.teg_model.specs.dioid.Dates.{IsAtMostDate}
use Rattle.teg_model.proofs.dioid_proofs.DateOrder.{same_by_at_most}
use Rattle.teg_model.specs.teg_net.declared.entries.PlaceId.{PlaceId}
use Rattle.teg_model.specs.teg_net.declared.entries.Place.{Place}
use Rattle.teg_model.specs.teg_net.Nets.{NetLists, IsInput}
use Rattle.teg_model.specs.teg_net.Circuits.{no_place, place_at, from_of, IsPathBetween, time_of}
use Rattle.teg_model.specs.teg_net.ReadyDates.{ready_date}
use Rattle.teg_model.specs.LiveRanks.{HasEndsInRange}
use Rattle.teg_model.specs.Datings.{implicit_place, initial_date, available_at, listed_releases, IsFeasibleUnder, IsLeastDating}
use Rattle.teg_model.proofs.DateFunctions.{Dating}
use Rattle.teg_model.proofs.OfNet.{all_extended_in}
use Rattle.teg_model.proofs.Tokens.{available_after, available_first, not_before_zero}
use Rattle.teg_loops.specs.Loops.{IsStraight, IsSplit}
use Rattle.teg_loops.proofs.Splitting.{split}
use Rattle.bound_laws.specs.Critical.{AllReadyAtZero}
use Rattle.still_laws.specs.StillNets.{IsStill}

-- ---- no place holds

-- a straight path comes back nowhere
straight_round : (net : NetLists) (ps : List PlaceId) (a : ℕ) → IsStraight net a ps a → ps ≡ []
straight_round net [] a h = refl
straight_round net (p ∷ ps) a h = absurd (h.leaves_not_end 0 p (omega arith) h.path.1)

-- so a way round is made of circuits, and takes no time where none of them does
round_still : (net : NetLists) → IsStill net → (ps : List PlaceId) (a : ℕ) → IsPathBetween net a ps a → time_of net ps ≡ 0
round_still net still ps a path =
    let w = split net ps a a path in
    let is : IsSplit net a ps a w.0 w.1 = w.2 in
    let sum : time_of net ps ≡ time_of net w.0 + sum_by (time_of net) w.1 = is.same (λ p. (place_at net p).hold) in
    let none : time_of net w.0 ≡ time_of net [] = ap (time_of net) (straight_round net w.0 a is.path) in
    let rounds = sum_by-le (time_of net) 0 w.1 (λ i d l. let e = still (get_or w.1 i d) (is.rounds i d l).circuit in omega (arith, e)) in
    let nothing : length w.1 * 0 ≡ 0 = grind arith in
    omega (arith, sum, none, rounds, nothing)

module _ (net : NetLists) (ends : HasEndsInRange net)
    (reaches : (s t : ℕ) → s < length net.transitions → t < length net.transitions → (ps : List PlaceId) × IsPathBetween net s ps t) (still : IsStill net) where
  no_hold : All (λ p. p.hold ≡ 0) net.places
  no_hold i d l =
      let p : PlaceId = record { index = i } in
      let in' = ends i no_place l in
      let back = reaches (place_at net p).to.index (place_at net p).from.index in'.1 in'.0 in
      let around = round_still net still (p ∷ back.0) (from_of net p) (l, refl, back.1) in
      let sum = sum_by-cons (λ q. (place_at net q).hold) p back.0 in
      rw (get_or_default net.places i d no_place l) (omega (arith, around, sum))

  -- ---- so all dates at 0 are feasible

  there_at_zero : (p : Place) (k : ℕ) → p.hold ≡ 0 → All (λ d. d ≡ 0) p.ready → IsAtMostDate (available_at (λ t j. At (pos 0)) p k) (At (pos 0))
  there_at_zero p k none ready =
      ⊎_elim
      (λ (m : p.tokens < k). rw (available_after initial_date (λ t j. At (pos 0)) p k (At (pos 0)) m refl) (omega (arith, ints, none)))
      (λ (m : k ≤ p.tokens).
      let at : ready_date p k ≡ 0 =
      ⊎_elim
      (λ (l : k - 1 < length p.ready). ready (k - 1) 0 l)
      (λ (l : length p.ready ≤ k - 1). get_or_past p.ready (k - 1) 0 l)
      (cases_lt (k - 1) (length p.ready)) in
      rw (available_first initial_date (λ t j. At (pos 0)) p k m) (omega (arith, ints, at)))
      (cases_lt p.tokens k)

  module _ (no_input : (t : ℕ) → IsInput net t → ⊥) (ready : AllReadyAtZero net) where
    feasible : IsFeasibleUnder net (listed_releases net) (λ t k. At (pos 0))
    feasible = record {
      places = λ k one. all_extended_in net (λ p. IsAtMostDate (available_at (λ t j. At (pos 0)) p k) (At (pos 0)))
          (λ i d l. there_at_zero (get_or net.places i d) k (no_hold i d l) (ready i d l))
          (λ t l. there_at_zero (implicit_place t) k refl (λ i d m. absurd (omega arith)));
      inputs = λ t k one i. absurd (no_input t i);
    }

    pub stay_at_zero : (x : Dating) → IsLeastDating net x → (t k : ℕ) → t < length net.transitions → 1 ≤ k → x t k ≡ At (pos 0)
    stay_at_zero x least t k l one =
        same_by_at_most (x t k) (At (pos 0)) (least.least (λ s j. At (pos 0)) feasible t k l one) (not_before_zero net (listed_releases net) x least.feasible t k l one)
