-- A walk from the release of an input is one from its first firing, so many numbers on.
use Rattle.std.proofs.Common.{ℕ, ◌+◌, ◌-◌, ◌<◌, ◌≤◌, ◌≡◌, List, [], ◌∷◌, length, refl, subst, ◌∙◌, arith, inl, inr, ⊎_elim}
use Rattle.std.specs.Prelude.{pos, ◌⊎◌}
use Rattle.walk_times.specs.dioid.declared.dates.Date.{Date}
use Rattle.walk_times.specs.dioid.declared.dates.Date.TheVariants.{Early, At, Never}
use Rattle.walk_times.specs.dioid.Dates.{IsAtMostDate, later_of, delayed, date_product}
use Rattle.walk_times.proofs.dioid_proofs.DateOrder.{at_most_refl, at_most_trans, same_by_at_most, delayed_rises, delayed_is_product, product_rises, later_left, later_either}
use Rattle.walk_times.specs.teg_net.declared.entries.Place.{Place}
use Rattle.walk_times.specs.teg_net.Nets.{NetLists, IsInput}
use Rattle.walk_times.specs.teg_net.Circuits.{IsLive, place_at}
use Rattle.walk_times.specs.teg_net.ReadyDates.{start_date}
use Rattle.walk_times.specs.teg_net.declared.walks.Step.{Step}
use Rattle.walk_times.specs.teg_net.declared.walks.Step.TheVariants.{By, Next}
use Rattle.walk_times.specs.teg_net.Walks.{Walks, walk_time}
use Rattle.walk_times.specs.teg_model.LiveRanks.{HasEndsInRange}
use Rattle.walk_times.specs.teg_model.Datings.{at_input, initial_date, system_of, IsFeasibleUnder, IsLeastUnder}
use Rattle.walk_times.specs.teg_model.WalkDates.{IsDateOfWalk}
use Rattle.walk_times.proofs.teg_model_proofs.DateFunctions.{Dating}
use Rattle.walk_times.proofs.teg_model_proofs.GreatestWalks.{not_before_ready, least_is_walk}
use Rattle.walk_times.proofs.teg_model_proofs.LiveRanks.{live_is_ranked}
use Rattle.walk_times.proofs.teg_model_proofs.OfNet.{feasible_in, input_or_not}
use Rattle.walk_times.proofs.teg_model_proofs.WalkSteps.{Keeps, feasible_keeps_in, walk_below}
use Rattle.walk_times.specs.settled_laws.SettledForms.{settled_date}
use Rattle.walk_times.proofs.settled_laws_proofs.Telling.{form_tells}
use Rattle.walk_times.proofs.Walking.{input_within}
use Rattle.io_laws.specs.InputOutput.{no_releases, AreTransferTimes, response, DatesAreOutputs, DatesAreOutputsOfTransfers}

-- a walk goes on over so many numbers, from whichever number it starts
walk_from : (net : NetLists) (steps : List Step) (a s b k j : ℕ) → Walks net a s steps b k → (g : ℕ) × (k ≡ s + g) × Walks net a j steps b (j + g)
walk_from net [] a s b k j w =
    let none : k ≡ s + 0 = omega (arith, w.1) in
    let same : j ≡ j + 0 = omega arith in
    (0, none, (w.0, same))
walk_from net (By p ∷ steps) a s b k j w =
    let place : Place = place_at net p in
    let rest = walk_from net steps place.to.index (s + place.tokens) b k (j + place.tokens) w.2 in
    let on : k ≡ s + (place.tokens + rest.0) = omega (arith, rest.1) in
    let to : j + place.tokens + rest.0 ≡ j + (place.tokens + rest.0) = omega arith in
    (place.tokens + rest.0, on, (w.0, w.1, subst (Walks net place.to.index (j + place.tokens) steps b) to rest.2))
walk_from net (Next ∷ steps) a s b k j w =
    let rest = walk_from net steps a (s + 1) b k (j + 1) w in
    let on : k ≡ s + (1 + rest.0) = omega (arith, rest.1) in
    let to : j + 1 + rest.0 ≡ j + (1 + rest.0) = omega arith in
    (1 + rest.0, on, subst (Walks net a (j + 1) steps b) to rest.2)

product_early : (a : Date) → date_product a Early ≡ Early
product_early Early = refl
product_early (At z) = refl
product_early Never = refl

module _ (net : NetLists) (ends : HasEndsInRange net) (x u y : Dating) (h : ℕ → ℕ → ℕ → Date) (free : IsLeastUnder net no_releases x)
    (least : IsLeastUnder net u y) (times : AreTransferTimes net h) where
  steps_kept : (v z : Dating) → IsFeasibleUnder net v z → Keeps net z
  steps_kept v z f = feasible_keeps_in net initial_date (system_of net v).release z (feasible_in net v z f)

  no_later : (t k : ℕ) → t < length net.transitions → 1 ≤ k → IsAtMostDate (x t k) (y t k)
  no_later t k l o = free.least y (record { places = least.feasible.places; inputs = λ s j one i. tt }) t k l o

  -- no response comes after the date
  response_below : (i j t k : ℕ) → IsInput net i → 1 ≤ j → j ≤ k → t < length net.transitions → IsAtMostDate (response u h i j t k) (y t k)
  response_below i j t k input one up l =
      let m : ℕ = k - j + 1 in
      let in' = input_within net i input in
      ⊎_elim
      (λ (e : (h i t m ≡ Early) × ((steps : List Step) → Walks net i 1 steps t m → ⊥)). rw (e.0, product_early (u i j)) tt)
      (λ (e : (steps : List Step) × Walks net i 1 steps t m × (h i t m ≡ At (pos (walk_time net steps)))).
      let time : ℕ = walk_time net e.0 in
      let moved = walk_from net e.0 i 1 t m j e.1 in
      let to : j + moved.0 ≡ k = (let on = moved.1 in omega (arith, on, one, up)) in
      let walk : Walks net i j e.0 t k = subst (Walks net i j e.0 t) to moved.2 in
      let along = walk_below net y ends (steps_kept u y least.feasible) e.0 i j t k in' one walk in
      let waits = delayed_rises time (u i j) (y i j) (least.feasible.inputs i j one input) in
      let low : IsAtMostDate (delayed time (u i j)) (y t k) = at_most_trans (delayed time (u i j)) (delayed time (y i j)) (y t k) waits along in
      rw e.2 (rw delayed_is_product at low))
      (times i input t m l (omega arith)).reached

  -- a date that a walk makes of a ready token is the one without inputs
  free_reached : (a s t k : ℕ) (steps : List Step) → a < length net.transitions → 1 ≤ s → t < length net.transitions → 1 ≤ k → Walks net a s steps t k
      → y t k ≡ delayed (walk_time net steps) (At (pos (start_date net a s))) → y t k ≡ x t k
  free_reached a s t k steps in' one l o walk is =
      let time : ℕ = walk_time net steps in
      let ready : Date = At (pos (start_date net a s)) in
      let begun = delayed_rises time ready (x a s) (not_before_ready net no_releases x free.feasible a s in' one) in
      let along = walk_below net x ends (steps_kept no_releases x free.feasible) steps a s t k in' one walk in
      let low : IsAtMostDate (y t k) (x t k) = rw is (at_most_trans (delayed time ready) (delayed time (x a s)) (x t k) begun along) in
      same_by_at_most (y t k) (x t k) low (no_later t k l o)

  -- one that a walk makes of a release is the response to it
  response_reached : (i j t k : ℕ) (steps : List Step) → IsInput net i → 1 ≤ j → t < length net.transitions → Walks net i j steps t k → y t k ≡ delayed (walk_time net steps) (u i j)
      → (j ≤ k) × (y t k ≡ response u h i j t k)
  response_reached i j t k steps input one l walk is =
      let time : ℕ = walk_time net steps in
      let moved = walk_from net steps i j t k 1 walk in
      let on = moved.1 in
      let up : j ≤ k = omega (arith, on) in
      let m : ℕ = k - j + 1 in
      let to : 1 + moved.0 ≡ m = omega (arith, on) in
      let first : Walks net i 1 steps t m = subst (Walks net i 1 steps t) to moved.2 in
      let most = (times i input t m l (omega arith)).greatest steps first in
      let high = product_rises (u i j) (u i j) (At (pos time)) (h i t m) (at_most_refl (u i j)) most in
      let low : IsAtMostDate (y t k) (response u h i j t k) = rw (is, delayed_is_product time (u i j)) high in
      (up, same_by_at_most (y t k) (response u h i j t k) low (response_below i j t k input one up l))

  reached : IsLive net → (t k : ℕ) → t < length net.transitions → 1 ≤ k → (y t k ≡ x t k) ⊎ ((i j : ℕ) × IsInput net i × (1 ≤ j) × (j ≤ k) × (y t k ≡ response u h i j t k))
  reached live t k l o =
      let ranked = live_is_ranked net ends live in
      let w : IsDateOfWalk net u t k (y t k) = (least_is_walk net u y ranked.0 ranked.1 ends ranked.2 least t k l o).reached in
      let ready : Date = At (pos (start_date net w.from w.number)) in
      let release : Date = at_input net w.from (u w.from w.number) Early in
      ⊎_elim
      (λ (e : later_of ready release ≡ ready). inl (free_reached w.from w.number t k w.steps w.from_in w.from_one l o w.walk (rw (w.starts ∙ e) at w.is)))
      (λ (e : later_of ready release ≡ release).
      ⊎_elim
      (λ (i : IsInput net w.from × (release ≡ u w.from w.number)).
      let at = response_reached w.from w.number t k w.steps i.0 w.from_one l w.walk (rw (w.starts ∙ e ∙ i.1) at w.is) in
      inr (w.from, w.number, i.0, w.from_one, at.0, at.1))
      (λ (i : (release ≡ Early) × (release ≡ Early)). absurd (rw (e ∙ i.0) at (later_left ready release)))
      (input_or_not net w.from (u w.from w.number) Early Early))
      (later_either ready release)

pub dates_are_outputs : DatesAreOutputs
dates_are_outputs net ends live x u y h free least times t k l o = record {
  free = no_later net ends x u y h free least times t k l o;
  responses = λ i j input one up. response_below net ends x u y h free least times i j t k input one up l;
  attained = reached net ends x u y h free least times live t k l o;
}

pub outputs_of_transfers : DatesAreOutputsOfTransfers
outputs_of_transfers net ends live x u y transfers free least are t k l o =
    dates_are_outputs net ends live x u y (λ i. settled_date (transfers i)) free least
    (λ i input s m in' one.
    let of = are i input in
    let same : settled_date (transfers i) s m ≡ (of.0) s m = form_tells (length net.transitions) (transfers i) (of.0) of.2.stands s m in' one in
    rw same (of.1 s m in' one))
    t k l o
