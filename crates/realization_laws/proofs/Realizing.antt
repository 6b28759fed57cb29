-- A net of three transitions that realizes a causal periodic series.
use Rattle.std.proofs.Common.{ℕ, zero, suc, pos, negsuc, ◌+◌, ◌-◌, ◌*◌, ◌/◌, ◌%◌, ◌<◌, ◌≤◌, ◌≡◌, inl, inr, List, [], ◌∷◌, refl, sym, ap, subst, ◌∙◌, arith, ⊎_elim}
use Rattle.std.specs.Prelude.{All, Contains, slice_index}
use Rattle.std.proofs.lemmas.Bool.{cases_lt, cases_eq}
use Rattle.std.proofs.lemmas.Int.{ints}
use Rattle.std.proofs.lemmas.List.{get_or_default}
use Rattle.std.proofs.lemmas.List.Elements.{All-nil, All-cons}
use Rattle.std.proofs.lemmas.List.Sums.{sum_by-cons}
use Rattle.std.proofs.lemmas.Nat.{mod_below, div-add-mod', le-div}
use Rattle.std.proofs.Math.Nat.{div-mul-le_self, mul-le-mul_left}
use Rattle.walk_times.specs.dioid.declared.dates.Date.{Date}
use Rattle.walk_times.specs.dioid.declared.dates.Date.TheVariants.{Early, At, Never}
use Rattle.walk_times.specs.dioid.Dates.{IsAtMostDate, delayed}
use Rattle.walk_times.proofs.dioid_proofs.DateOrder.{at_most_refl, at_most_trans, at_most_is, delayed_rises}
use Rattle.walk_times.specs.teg_net.declared.entries.PlaceId.{PlaceId}
use Rattle.walk_times.specs.teg_net.declared.entries.Place.{Place}
use Rattle.walk_times.specs.teg_net.declared.entries.Transition.{Transition}
use Rattle.walk_times.specs.teg_net.declared.walks.Step.{Step}
use Rattle.walk_times.specs.teg_net.declared.walks.Step.TheVariants.{By, Next}
use Rattle.walk_times.specs.teg_net.Nets.{NetLists}
use Rattle.walk_times.specs.teg_net.Circuits.{no_place, place_at}
use Rattle.walk_times.specs.teg_net.Walks.{Walks, step_time, walk_time}
use Rattle.walk_times.proofs.teg_model_proofs.Delays.{delayed_twice, delayed_not}
use Rattle.walk_times.specs.teg_model.LiveRanks.{HasEndsInRange}
use Rattle.walk_times.specs.teg_check.Ranks.{IsRanking, RankedNetsAreLive}
use Rattle.walk_times.specs.Transfers.{IsGreatestWalkTime}
use Rattle.realization_laws.specs.Realizations.{IsCausalPeriodic, IsRealized, SeriesAreRealized}

later_number : (time m : ℕ) → delayed time (At (pos m)) ≡ At (pos (m + time))
later_number time m = ap At (omega (arith, ints))

-- what places keep, walks keep
module _ (net : NetLists) (D : ℕ → ℕ → Date) where
  abbrev pub KeepsDates : Place → Type 0
  KeepsDates p = (k : ℕ) → 1 ≤ k → IsAtMostDate (delayed p.hold (D p.from.index k)) (D p.to.index (k + p.tokens))

  pub walks_keep : All KeepsDates net.places → ((t k : ℕ) → 1 ≤ k → IsAtMostDate (D t k) (D t (k + 1)))
      → (steps : List Step) (a j b k : ℕ) → 1 ≤ j → Walks net a j steps b k → IsAtMostDate (delayed (walk_time net steps) (D a j)) (D b k)
  walks_keep keeps climbs [] a j b k one w = at_most_is (delayed (walk_time net []) (D a j)) (D b k) (delayed_not (D a j) ∙ ap (λ t. D t j) w.0 ∙ ap (D b) w.1)
  walks_keep keeps climbs (By p ∷ steps) a j b k one w =
      let place : Place = place_at net p in
      let from : D place.from.index j ≡ D a j = ap (λ t. D t j) w.1 in
      let here = rw from at (keeps p.index no_place w.0 j one) in
      let rest = walks_keep keeps climbs steps place.to.index (j + place.tokens) b k (omega (arith, one)) w.2 in
      let time : walk_time net (By p ∷ steps) ≡ place.hold + walk_time net steps = sum_by-cons (step_time net) (By p) steps in
      rw (time, delayed_twice place.hold (walk_time net steps) (D a j))
      (at_most_trans (delayed (walk_time net steps) (delayed place.hold (D a j))) (delayed (walk_time net steps) (D place.to.index (j + place.tokens))) (D b k)
      (delayed_rises (walk_time net steps) (delayed place.hold (D a j)) (D place.to.index (j + place.tokens)) here) rest)
  walks_keep keeps climbs (Next ∷ steps) a j b k one w =
      let here = climbs a j one in
      let rest = walks_keep keeps climbs steps a (j + 1) b k (omega (arith, one)) w in
      let time : walk_time net (Next ∷ steps) ≡ walk_time net steps = (let e = sum_by-cons (step_time net) Next steps in omega (arith, e)) in
      rw time
      (at_most_trans (delayed (walk_time net steps) (D a j)) (delayed (walk_time net steps) (D a (j + 1))) (D b k)
      (delayed_rises (walk_time net steps) (D a j) (D a (j + 1)) here) rest)

module _ (s : ℕ → Date) (c : IsCausalPeriodic s) (name : Transition) (label : Place) where
  climb_many : (k j : ℕ) → IsAtMostDate (s k) (s (k + j))
  climb_many k zero = let e : k + 0 ≡ k = omega arith in rw e (at_most_refl (s k))
  climb_many k (suc j) =
      let e : k + suc j ≡ (k + j) + 1 = omega arith in
      rw e (at_most_trans (s k) (s (k + j)) (s ((k + j) + 1)) (climb_many k j) (c.never_falls (k + j)))

  rounds_on : (r k : ℕ) → c.begin ≤ k → s (k + r * c.period) ≡ delayed (r * c.step) (s k)
  rounds_on zero k l =
      let e : k + 0 * c.period ≡ k = omega arith in
      let f : 0 * c.step ≡ 0 = omega arith in
      rw (e, f) (sym (delayed_not (s k)))
  rounds_on (suc r) k l =
      let e : k + suc r * c.period ≡ (k + r * c.period) + c.period = grind arith in
      let f : suc r * c.step ≡ r * c.step + c.step = grind arith in
      rw (e, f, delayed_twice (r * c.step) c.step (s k)) (c.again (k + r * c.period) (omega (arith, l)) ∙ ap (delayed c.step) (rounds_on r k l))

  -- ---- the net: transition 0 is the input, 1 the output, and 2 goes round

  abbrev place : ℕ → ℕ → ℕ → ℕ → Place
  place from to hold tokens = record { name = label.name; from = record { index = from }; to = record { index = to }; hold = hold; tokens = tokens; ready = label.ready }

  -- a place to the output of so many tokens, which holds for the date, where it is one
  abbrev stair : ℕ → ℕ → Date → List Place → List Place
  stair from tokens Early rest = rest
  stair from tokens (At (pos m)) rest = place from 1 m tokens ∷ rest
  stair from tokens (At (negsuc m)) rest = rest
  stair from tokens Never rest = rest

  -- one for each of so many values from a first one on
  stairs : ℕ → ℕ → ℕ → List Place → List Place
  stairs from first zero rest = rest
  stairs from first (suc n) rest = stair from (first + n) (s (first + n)) (stairs from first n rest)

  abbrev round : ℕ → Place
  round n = place 2 2 c.step c.period

  abbrev places : List Place
  places = place 0 2 0 0 ∷ round 0 ∷ stairs 0 0 c.begin (stairs 2 c.begin c.period [])

  abbrev net : NetLists
  net = record { transitions = name ∷ name ∷ name ∷ []; places = places; inputs = [] }

  -- what holds of the places of values holds of all
  all_stair : (P : Place → Type 0) (from tokens : ℕ) (d : Date) (rest : List Place) → All P rest → ((m : ℕ) → d ≡ At (pos m) → P (place from 1 m tokens)) → All P (stair from tokens d rest)
  all_stair P from tokens Early rest all each = all
  all_stair P from tokens (At (pos m)) rest all each = All-cons P (place from 1 m tokens) rest (each m refl) all
  all_stair P from tokens (At (negsuc m)) rest all each = all
  all_stair P from tokens Never rest all each = all

  all_stairs : (P : Place → Type 0) (from first n : ℕ) (rest : List Place) → All P rest
      → ((i m : ℕ) → i < n → s (first + i) ≡ At (pos m) → P (place from 1 m (first + i))) → All P (stairs from first n rest)
  unfolding stairs
  all_stairs P from first zero rest all each = all
  all_stairs P from first (suc n) rest all each =
      all_stair P from (first + n) (s (first + n)) (stairs from first n rest) (all_stairs P from first n rest all (λ i m l. each i m (omega (arith, l)))) (λ m e. each n m (omega arith) e)

  all_places : (P : Place → Type 0) → P (place 0 2 0 0) → P (round 0) → ((i m : ℕ) → s i ≡ At (pos m) → P (place 0 1 m i))
      → ((i m : ℕ) → c.begin ≤ i → s i ≡ At (pos m) → P (place 2 1 m i)) → All P places
  all_places P one two direct later =
      All-cons P (place 0 2 0 0) (round 0 ∷ stairs 0 0 c.begin (stairs 2 c.begin c.period [])) one
      (All-cons P (round 0) (stairs 0 0 c.begin (stairs 2 c.begin c.period [])) two
      (all_stairs P 0 0 c.begin (stairs 2 c.begin c.period [])
      (all_stairs P 2 c.begin c.period [] (All-nil P) (λ i m l e. later (c.begin + i) m (omega arith) e))
      (λ i m l e. let z : 0 + i ≡ i = omega arith in subst (λ k. P (place 0 1 m k)) (sym z) (direct i m (ap s (sym z) ∙ e)))))

  -- and each such place is there
  in_stair : (x : Place) (from tokens : ℕ) (d : Date) (rest : List Place) → Contains rest x → Contains (stair from tokens d rest) x
  in_stair x from tokens Early rest h = h
  in_stair x from tokens (At (pos m)) rest h = (suc h.0, (let l = h.1 in omega (arith, l)), h.2)
  in_stair x from tokens (At (negsuc m)) rest h = h
  in_stair x from tokens Never rest h = h

  in_rest : (x : Place) (from first n : ℕ) (rest : List Place) → Contains rest x → Contains (stairs from first n rest) x
  unfolding stairs
  in_rest x from first zero rest h = h
  in_rest x from first (suc n) rest h = in_stair x from (first + n) (s (first + n)) (stairs from first n rest) (in_rest x from first n rest h)

  in_stairs : (from first n i m : ℕ) (rest : List Place) → i < n → s (first + i) ≡ At (pos m) → Contains (stairs from first n rest) (place from 1 m (first + i))
  unfolding stairs
  in_stairs from first zero i m rest l e = absurd (omega (arith, l))
  in_stairs from first (suc n) i m rest l e = ⊎_elim
      (λ (same : i ≡ n).
      let f : s (first + n) ≡ At (pos m) = ap (λ k. s (first + k)) (sym same) ∙ e in
      rw (f, same) (zero, omega arith, refl))
      (λ (other : i ≡ n → ⊥). in_stair (place from 1 m (first + i)) from (first + n) (s (first + n)) (stairs from first n rest) (in_stairs from first n i m rest (omega (arith, l, other)) e))
      (cases_eq i n)

  in_places : (x : Place) → Contains (stairs 0 0 c.begin (stairs 2 c.begin c.period [])) x → Contains places x
  in_places x h = (suc (suc h.0), (let l = h.1 in omega (arith, l)), h.2)

  -- ---- dates that no walk exceeds

  abbrev D : ℕ → ℕ → Date
  D zero k = At (pos 0)
  D (suc zero) k = s (k - 1)
  D (suc (suc t)) k = At (pos (c.step * ((k - 1) / c.period)))

  climbs : (t k : ℕ) → 1 ≤ k → IsAtMostDate (D t k) (D t (k + 1))
  climbs zero k one = at_most_refl (At (pos 0))
  climbs (suc zero) k one = let e : (k - 1) + 1 ≡ k + 1 - 1 = omega (arith, one) in subst (λ j. IsAtMostDate (s (k - 1)) (s j)) e (c.never_falls (k - 1))
  climbs (suc (suc t)) k one =
      let low : (k - 1) / c.period * c.period ≤ k - 1 = div-mul-le_self (k - 1) c.period in
      let up : (k - 1) / c.period ≤ (k + 1 - 1) / c.period = le-div ((k - 1) / c.period) (k + 1 - 1) c.period c.some (omega (arith, low)) in
      let more : c.step * ((k - 1) / c.period) ≤ c.step * ((k + 1 - 1) / c.period) = mul-le-mul_left {m = (k - 1) / c.period} {n = (k + 1 - 1) / c.period} c.step up in
      omega (arith, ints, more)

  keeps : All (KeepsDates net D) places
  keeps = all_places (KeepsDates net D) to_round around direct later where
    to_round : KeepsDates net D (place 0 2 0 0)
    to_round k one = omega (arith, ints)

    around : KeepsDates net D (round 0)
    around k one =
        let low : (k - 1) / c.period * c.period ≤ k - 1 = div-mul-le_self (k - 1) c.period in
        let next : ((k - 1) / c.period + 1) * c.period ≡ (k - 1) / c.period * c.period + c.period = grind arith in
        let up : (k - 1) / c.period + 1 ≤ (k + c.period - 1) / c.period = le-div ((k - 1) / c.period + 1) (k + c.period - 1) c.period c.some (omega (arith, low, next, one)) in
        let more : c.step * ((k - 1) / c.period + 1) ≤ c.step * ((k + c.period - 1) / c.period) = mul-le-mul_left {m = (k - 1) / c.period + 1} {n = (k + c.period - 1) / c.period} c.step up in
        let spread : c.step * ((k - 1) / c.period + 1) ≡ c.step * ((k - 1) / c.period) + c.step = grind arith in
        omega (arith, ints, more, spread)

    direct : (i m : ℕ) → s i ≡ At (pos m) → KeepsDates net D (place 0 1 m i)
    direct i m e k one =
        let at : i + (k - 1) ≡ k + i - 1 = omega (arith, one) in
        let up : IsAtMostDate (At (pos m)) (s (k + i - 1)) = subst (λ d. IsAtMostDate d (s (k + i - 1))) e (subst (λ j. IsAtMostDate (s i) (s j)) at (climb_many i (k - 1))) in
        let date : delayed m (At (pos 0)) ≡ At (pos m) = later_number m 0 ∙ ap (λ z. At (pos z)) (let z : 0 + m ≡ m = omega arith in z) in
        subst (λ d. IsAtMostDate d (s (k + i - 1))) (sym date) up

    later : (i m : ℕ) → c.begin ≤ i → s i ≡ At (pos m) → KeepsDates net D (place 2 1 m i)
    later i m l e k one =
        let r : ℕ = (k - 1) / c.period in
        let low : r * c.period ≤ k - 1 = div-mul-le_self (k - 1) c.period in
        let at : (i + r * c.period) + (k - 1 - r * c.period) ≡ k + i - 1 = omega (arith, one, low) in
        let there : s (i + r * c.period) ≡ At (pos (m + r * c.step)) = rounds_on r i l ∙ ap (delayed (r * c.step)) e ∙ later_number (r * c.step) m in
        let up : IsAtMostDate (At (pos (m + r * c.step))) (s (k + i - 1)) =
        subst (λ d. IsAtMostDate d (s (k + i - 1))) there
        (subst (λ j. IsAtMostDate (s (i + r * c.period)) (s j)) at (climb_many (i + r * c.period) (k - 1 - r * c.period))) in
        let date : delayed m (At (pos (c.step * r))) ≡ At (pos (m + r * c.step)) = later_number m (c.step * r) ∙ ap (λ z. At (pos z)) (let z : c.step * r + m ≡ m + r * c.step = grind arith in z) in
        subst (λ d. IsAtMostDate d (s (k + i - 1))) (sym date) up

  greatest : (k : ℕ) (steps : List Step) → Walks net 0 1 steps 1 (k + 1) → IsAtMostDate (At (pos (walk_time net steps))) (s k)
  greatest k steps w =
      let up = walks_keep net D keeps climbs steps 0 1 1 (k + 1) (omega arith) w in
      let date : delayed (walk_time net steps) (At (pos 0)) ≡ At (pos (walk_time net steps)) = later_number (walk_time net steps) 0
      ∙ ap (λ z. At (pos z)) (let z : 0 + walk_time net steps ≡ walk_time net steps = omega arith in z) in
      let e : k + 1 - 1 ≡ k = omega arith in
      subst (λ d. IsAtMostDate d (s k)) date (subst (λ j. IsAtMostDate (delayed (walk_time net steps) (At (pos 0))) (s j)) e up)

  -- ---- walks that meet them

  -- a walk to firing k + 1 of the output that takes so long
  record IsWalkOf (a j k m : ℕ) : Type 0 where
    steps : List Step
    walk : Walks net a j steps 1 (k + 1)
    time : walk_time net steps ≡ m

  by_place : (from j k m i : ℕ) → Contains places (place from 1 m i) → j + i ≡ k + 1 → IsWalkOf from j k m
  by_place from j k m i h e =
      let id : PlaceId = record { index = h.0 } in
      let is : place_at net id ≡ place from 1 m i = get_or_default places h.0 no_place (place from 1 m i) h.1 ∙ h.2 in
      let number : j + (place_at net id).tokens ≡ k + 1 = ap (λ p. j + p.tokens) is ∙ e in
      let sum = sum_by-cons (step_time net) (By id) [] in
      let hold : (place_at net id).hold ≡ m = ap (λ p. p.hold) is in
      record {
        steps = By id ∷ [];
        walk = (h.1, ap (λ p. p.from.index) is, (ap (λ p. p.to.index) is, number));
        time = omega (arith, sum, hold);
      }

  once_round : (j k m : ℕ) → IsWalkOf 2 (j + c.period) k m → IsWalkOf 2 j k (c.step + m)
  once_round j k m w =
      let id : PlaceId = record { index = 1 } in
      let sum = sum_by-cons (step_time net) (By id) w.steps in
      let time = w.time in
      record { steps = By id ∷ w.steps; walk = (omega arith, refl, w.walk); time = omega (arith, sum, time) }

  round_on : (r j k m : ℕ) → IsWalkOf 2 (j + r * c.period) k m → IsWalkOf 2 j k (r * c.step + m)
  round_on zero j k m w =
      let e : j + 0 * c.period ≡ j = omega arith in
      let f : m ≡ 0 * c.step + m = omega arith in
      subst (λ z. IsWalkOf 2 j k z) f (subst (λ z. IsWalkOf 2 z k m) e w)
  round_on (suc r) j k m w =
      let e : j + suc r * c.period ≡ (j + c.period) + r * c.period = grind arith in
      let f : c.step + (r * c.step + m) ≡ suc r * c.step + m = grind arith in
      subst (λ z. IsWalkOf 2 j k z) f (once_round j k (r * c.step + m) (round_on r (j + c.period) k m (subst (λ z. IsWalkOf 2 z k m) e w)))

  to_round : (k m : ℕ) → IsWalkOf 2 1 k m → IsWalkOf 0 1 k m
  to_round k m w =
      let id : PlaceId = record { index = 0 } in
      let sum = sum_by-cons (step_time net) (By id) w.steps in
      let time = w.time in
      let e : 1 ≡ 1 + 0 = omega arith in
      record { steps = By id ∷ w.steps; walk = (omega arith, refl, subst (λ z. Walks net 2 z w.steps 1 (k + 1)) e w.walk); time = omega (arith, sum, time) }

  meets : (k m : ℕ) → s k ≡ At (pos m) → IsWalkOf 0 1 k m
  meets k m e = ⊎_elim
      (λ (early : k < c.begin).
      let z : 0 + k ≡ k = omega arith in
      let has = in_places (place 0 1 m (0 + k)) (in_stairs 0 0 c.begin k m (stairs 2 c.begin c.period []) early (ap s z ∙ e)) in
      by_place 0 1 k m (0 + k) has (omega arith))
      (λ (later : c.begin ≤ k).
      let r : ℕ = (k - c.begin) / c.period in
      let j : ℕ = (k - c.begin) % c.period in
      let low : j < c.period = mod_below (k - c.begin) c.period c.some in
      let parts = div-add-mod' (k - c.begin) c.period in
      let i : ℕ = c.begin + j in
      let at : i + r * c.period ≡ k = omega (arith, parts, later) in
      let date : At (pos m) ≡ delayed (r * c.step) (s i) = sym e ∙ ap s (sym at) ∙ rounds_on r i (omega arith) in
      ⊎_elim
      (λ (none : s i ≡ Early). absurd (at_most_is (At (pos m)) Early (date ∙ ap (delayed (r * c.step)) none)))
      (λ (f : (n : ℕ) × (s i ≡ At (pos n))).
      let n : ℕ = f.0 in
      let both : At (pos m) ≡ At (pos (n + r * c.step)) = date ∙ ap (delayed (r * c.step)) f.1 ∙ later_number (r * c.step) n in
      let up = at_most_is (At (pos m)) (At (pos (n + r * c.step))) both in
      let down = at_most_is (At (pos (n + r * c.step))) (At (pos m)) (sym both) in
      let is : r * c.step + n ≡ m = omega (arith, ints, up, down) in
      let has = in_places (place 2 1 n i) (in_rest (place 2 1 n i) 0 0 c.begin (stairs 2 c.begin c.period []) (in_stairs 2 c.begin c.period j n [] low f.1)) in
      let last : IsWalkOf 2 (1 + r * c.period) k n = by_place 2 (1 + r * c.period) k n i has (omega (arith, at)) in
      to_round k m (subst (λ z. IsWalkOf 2 1 k z) is (round_on r 1 k n last)))
      (c.causal i))
      (cases_lt k c.begin)

  transfer : (k : ℕ) → IsGreatestWalkTime net 0 1 (k + 1) (s k)
  transfer k = record {
    reached = ⊎_elim
        (λ (none : s k ≡ Early). inl (none, λ steps w. subst (λ d. IsAtMostDate (At (pos (walk_time net steps))) d) none (greatest k steps w)))
        (λ (e : (m : ℕ) × (s k ≡ At (pos m))). let w = meets k e.0 e.1 in inr (w.steps, w.walk, e.1 ∙ ap (λ z. At (pos z)) (sym w.time)))
        (c.causal k);
    greatest = greatest k;
  }

  ends_in : HasEndsInRange net
  ends_in = all_places (λ p. (p.from.index < 3) × (p.to.index < 3)) (omega arith, omega arith) (omega arith, omega arith) (λ i m e. (omega arith, omega arith)) (λ i m l e. (omega arith, omega arith))

  ranks : List ℕ
  ranks = 0 ∷ 2 ∷ 1 ∷ []

  ranking : IsRanking net ranks
  unfolding ranks
  ranking = record {
    count = refl;
    small = All-cons (λ r. r < 3) 0 (2 ∷ 1 ∷ []) (omega arith) (All-cons (λ r. r < 3) 2 (1 ∷ []) (omega arith) (All-cons (λ r. r < 3) 1 [] (omega arith) (All-nil (λ r. r < 3))));
    rises = all_places (λ p. p.tokens ≡ 0 → slice_index (0 ∷ 2 ∷ 1 ∷ []) p.from.index < slice_index (0 ∷ 2 ∷ 1 ∷ []) p.to.index)
        (λ e. omega arith)
        (λ e. absurd (let one = c.some in omega (arith, e, one)))
        (λ i m f e. omega arith)
        (λ i m l f e. omega arith);
  }

  pub realized : RankedNetsAreLive → IsRealized s
  realized live = record {
    net = net;
    ends = ends_in;
    live = live net ranks ranking;
    input = 0;
    output = 1;
    input_in = omega arith;
    output_in = omega arith;
    transfer = transfer;
  }

pub are_realized : RankedNetsAreLive → SeriesAreRealized
are_realized live s c name label = realized s c name label live
