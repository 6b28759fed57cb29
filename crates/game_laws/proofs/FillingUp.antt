-- A place fills up where what takes from it stands still: the end of the place as an input that is never released.
use Rattle.std.proofs.Common.{ℕ, zero, suc, ◌+◌, ◌-◌, ◌<◌, ◌≤◌, ◌≡◌, ◌≢◌, List, [], ◌∷◌, true, false, None, eqb, length, map, refl, sym, subst, ◌∙◌, arith, ⊎_elim}
use Rattle.std.specs.Prelude.{pos, nat_le, Contains, slice_get, slice_index_or, IsSomeAnd, sum_by, take}
use Rattle.std.proofs.lemmas.Bool.{cases_lt, cases_eq}
use Rattle.std.proofs.lemmas.Bool.Decides.{nat_tests}
use Rattle.std.proofs.lemmas.List.{length-map}
use Rattle.std.proofs.lemmas.List.Sums.{sum_by-cons}
use Rattle.teg_model.specs.dioid.declared.dates.Date.TheVariants.{At, Never}
use Rattle.teg_model.specs.dioid.Dates.{IsAtMostDate}
use Rattle.teg_model.proofs.dioid_proofs.DateOrder.{at_least_never}
use Rattle.teg_net.specs.declared.entries.Role.TheVariants.{Input}
use Rattle.teg_net.specs.declared.entries.Transition.{Transition}
use Rattle.teg_net.specs.declared.entries.InputList.{InputList}
use Rattle.teg_net.specs.declared.entries.PlaceId.{PlaceId}
use Rattle.teg_net.specs.declared.entries.Place.{Place}
use Rattle.teg_net.specs.Nets.{NetLists, HasEndsInRange, IsInput, lists_of}
use Rattle.teg_net.specs.Inputs.{input_date}
use Rattle.teg_net.specs.Circuits.{place_at, from_of, no_place, IsPathBetween, IsCircuit, IsLive, tokens_of}
use Rattle.teg_net.specs.Parts.{to_of}
use Rattle.teg_net.specs.Walks.{walk_time}
use Rattle.teg_model.specs.Datings.{listed_releases, system_of, IsLeastDating}
use Rattle.teg_model.specs.Starts.{start_of_firing}
use Rattle.teg_model.specs.WalkDates.{IsDateOfWalk}
use Rattle.teg_model.proofs.DateFunctions.{Dating}
use Rattle.teg_model.proofs.GreatestWalks.{least_is_walk}
use Rattle.teg_model.proofs.LeastOver.{least_over}
use Rattle.teg_model.proofs.LiveRanks.{live_is_ranked}
use Rattle.teg_model.proofs.OfNet.{least_of, least_of_system}
use Rattle.teg_loops.proofs.Splitting.{split}
use Rattle.teg_loops.proofs.Through.{closes}
use Rattle.slope_laws.proofs.WalkPaths.{walk_path}
use Rattle.run_laws.specs.declared.fired.Fired.{Fired}
use Rattle.run_laws.specs.Runs.{dates_of_transition, next_number, IsLegalAfter, IsLegalRun}
use Rattle.run_laws.specs.Earliest.{tokens_in}
use Rattle.run_laws.proofs.Dates.{get_there}
use Rattle.run_laws.proofs.Prefixes.{legal_begins}
use Rattle.game_laws.specs.LiveByTheGame.{NoInputListEnds}
use Rattle.game_laws.specs.TokensOnCircuits.{PlacesFillUp}
use Rattle.game_laws.proofs.Gathering.{all_dated}
use Rattle.game_laws.proofs.Living.{found_given, delayed_never, never_start}
use Rattle.game_laws.proofs.Reaching.{dates_earliest, never_none}

-- ---- the net in which one transition stands still

-- each transition as an input: one without a list is released from 0 on
abbrev as_input : Transition → Transition
as_input t = record { name = t.name; role = Input }

-- the list of no dates
abbrev no_dates : ℕ → InputList
no_dates b = record { transition = record { index = b }; dates = []; again = None }

-- transition b is never released
abbrev stopped : NetLists → ℕ → NetLists
stopped net b = lists_of (map as_input net.transitions) net.places (no_dates b ∷ net.inputs)

all_inputs : (ts : List Transition) (t : ℕ) → t < length ts → IsSomeAnd (slice_get (map as_input ts) t) (λ x. x.role ≡ Input)
all_inputs [] t l = absurd (omega (arith, l))
all_inputs (x ∷ ts) zero l = refl
all_inputs (x ∷ ts) (suc t) l = all_inputs ts t (omega (arith, l))

module _ (net : NetLists) (b : ℕ) where
  count : length (stopped net b).transitions ≡ length net.transitions
  count = length-map net.transitions as_input

  is_input : (t : ℕ) → t < length net.transitions → IsInput (stopped net b) t
  is_input t l = all_inputs net.transitions t l

  -- b has no date
  never_released : (k : ℕ) → 1 ≤ k → input_date (stopped net b) b k ≡ None
  never_released k o = let e : eqb b b ≡ true = grind (arith, nat_tests) in let q : nat_le k 0 ≡ false = grind (arith, nat_tests, o) in rw (e, q) refl

  -- the others have theirs
  released_as_before : (t k : ℕ) → b ≢ t → input_date (stopped net b) t k ≡ input_date net t k
  released_as_before t k d = let e : eqb b t ≡ false = grind (arith, nat_tests, d) in rw e refl

  stopped_ends : HasEndsInRange net → HasEndsInRange (stopped net b)
  stopped_ends ends i d l = let h = ends i d l in let from = h.0 in let to = h.1 in (omega (arith, from, count), omega (arith, to, count))

  stopped_live : IsLive net → IsLive (stopped net b)
  stopped_live live ps c none = live ps (record { not_empty = c.not_empty; closed = c.closed; leaves_once = c.leaves_once }) none

  -- ---- what may fire there may fire in the net

  may_fire : (run : List Fired) (f : Fired) → IsLegalAfter (stopped net b) run f → IsLegalAfter net run f
  may_fire run f h =
      let t : ℕ = f.transition.index in
      let k : ℕ = next_number run t in
      let in_stopped = h.transition_in in
      let here : t < length net.transitions = omega (arith, in_stopped, count) in
      record {
        transition_in = here;
        tokens = h.tokens;
        in_order = h.in_order;
        released = λ i. ⊎_elim
            (λ (e : b ≡ t). absurd (rw (subst (λ (z : ℕ). input_date (stopped net b) z k ≡ None) e (never_released k (omega arith))) at (h.released (is_input t here))))
            (λ (e : b ≢ t). rw (released_as_before t k e) at (h.released (is_input t here)))
            (cases_eq b t);
      }

  legal_there : (run : List Fired) → IsLegalRun (stopped net b) run → IsLegalRun net run
  legal_there run h i d l = may_fire (take i run) (slice_index_or run i d) (h i d l)

-- ---- what comes there, and what does not

module _ (net : NetLists) (ends : HasEndsInRange net) (live : IsLive net) (on : NoInputListEnds net) (b : ℕ) (in' : b < length net.transitions)
    (x : Dating) (least : IsLeastDating (stopped net b) x) where
  -- b never fires
  stands : x b 1 ≡ Never
  stands =
      let low : IsAtMostDate (listed_releases (stopped net b) b 1) (x b 1) = least.feasible.inputs b 1 (omega arith) (is_input net b b in') in
      let up : IsAtMostDate Never (x b 1) = rw (never_released net b 1 (omega arith)) at low in
      at_least_never (x b 1) up

  -- where firing k of transition a does not come, some path leads from b to a with fewer tokens than k
  led_from : (a k : ℕ) → a < length net.transitions → 1 ≤ k → x a k ≡ Never → (qs : List PlaceId) × IsPathBetween net b qs a × (tokens_of net qs < k)
  led_from a k l o never =
      let own : NetLists = stopped net b in
      let u : Dating = listed_releases own in
      let own_ends = stopped_ends net b ends in
      let ranks = live_is_ranked own own_ends (stopped_live net b live) in
      let a_in : a < length own.transitions = omega (arith, l, count net b) in
      let w : IsDateOfWalk own u a k (x a k) = (least_is_walk own u x ranks.0 ranks.1 own_ends ranks.2 least a k a_in o).reached in
      let start : start_of_firing own u w.from w.number ≡ Never = sym w.starts ∙ delayed_never (walk_time own w.steps) w.start (sym w.is ∙ never) in
      let none : input_date own w.from w.number ≡ None = never_start own w.from w.number start in
      let path = walk_path own w.steps w.from w.number a k w.walk in
      let first = w.from_one in
      let sum = path.number in
      ⊎_elim
      (λ (e : b ≡ w.from). (path.places, along path.places b a (subst (λ (z : ℕ). IsPathBetween own z path.places a) (sym e) path.path), omega (arith, first, sum)))
      (λ (e : b ≢ w.from). absurd (found_given (λ q. eqb q.transition.index w.from) net.inputs w.number on (sym (released_as_before net b w.from w.number e) ∙ none)))
      (cases_eq b w.from) where
        along : (ps : List PlaceId) (s t : ℕ) → IsPathBetween (stopped net b) s ps t → IsPathBetween net s ps t
        along [] s t h = h
        along (p ∷ ps) s t h = (h.0, h.1, along ps (place_at net p).to.index t h.2)

-- so the place at whose end b stands is on a circuit of fewer tokens
closed_by : (net : NetLists) (p : PlaceId) → p.index < length net.places → (qs : List PlaceId) → IsPathBetween net (to_of net p) qs (from_of net p)
    → (ps : List PlaceId) × IsCircuit net ps × Contains ps p × (tokens_of net ps ≤ (place_at net p).tokens + tokens_of net qs)
closed_by net p l qs path =
    let s = split net qs (to_of net p) (from_of net p) path in
    let tokens : PlaceId → ℕ = λ q. (place_at net q).tokens in
    let same = s.2.same tokens in
    let sum = sum_by-cons tokens p s.0 in
    let few : tokens_of net (p ∷ s.0) ≤ (place_at net p).tokens + tokens_of net qs = omega (arith, same, sum) in
    (p ∷ s.0, closes net p s.0 l s.2.path, (0, omega arith, refl), few)

module _ (net : NetLists) (ends : HasEndsInRange net) (live : IsLive net) (on : NoInputListEnds net) (p : PlaceId) (l : p.index < length net.places) (most : ℕ)
    (all : (ps : List PlaceId) → IsCircuit net ps → Contains ps p → most ≤ tokens_of net ps) where
  abbrev held : Place
  held = place_at net p

  start_in : from_of net p < length net.transitions
  start_in = (ends p.index no_place l).0

  end_in : to_of net p < length net.transitions
  end_in = (ends p.index no_place l).1

  abbrev own : NetLists
  own = stopped net (to_of net p)

  filled : held.tokens < most → (run : List Fired) × IsLegalRun net run × (most ≤ tokens_in run held)
  filled more =
      let own_ends = stopped_ends net (to_of net p) ends in
      let own_live = stopped_live net (to_of net p) live in
      let ranks = live_is_ranked own own_ends own_live in
      let u : Dating = listed_releases own in
      let x : Dating = least_over (system_of own u) ranks.0 ranks.1 in
      let least : IsLeastDating own x = least_of_system own u x (least_of own u ranks.0 ranks.1 ranks.2) in
      let d : ℕ = most - held.tokens in
      let some : 1 ≤ d = omega (arith, more) in
      let a_in : from_of net p < length own.transitions = omega (arith, start_in, count net (to_of net p)) in
      let b_in : to_of net p < length own.transitions = omega (arith, end_in, count net (to_of net p)) in
      ⊎_elim
      (λ (e : x (from_of net p) d ≡ Never).
      let led = led_from net ends live on (to_of net p) end_in x least (from_of net p) d start_in some e in
      let c = closed_by net p l led.0 led.1 in
      let high = all c.0 c.1 c.2 in
      let low = c.3 in
      let few = led.2 in
      absurd (omega (arith, high, low, few, more)))
      (λ (e : (z : ℕ) × (x (from_of net p) d ≡ At (pos z))).
      let reached = ((dates_earliest own x own_ends own_live least (from_of net p) d e.0 a_in some).0 e.1).reached in
      let legal = reached.1 in
      let often = (get_there (dates_of_transition reached.0 (from_of net p)) (d - 1) e.0 reached.2).0 in
      let none = (never_none own x own_ends own_live least (to_of net p) 1 b_in (omega arith)).0 (stands net ends live on (to_of net p) end_in x least) reached.0 legal in
      (reached.0, legal_there net (to_of net p) reached.0 legal, omega (arith, often, none, more, some)))
      (all_dated own x least.feasible (from_of net p) d a_in some)

  pub fills_up : (run : List Fired) × IsLegalRun net run × (most ≤ tokens_in run held)
  fills_up = ⊎_elim
      (λ (more : held.tokens < most). filled more)
      (λ (few : most ≤ held.tokens). ([], legal_begins net, omega (arith, few)))
      (cases_lt held.tokens most)

pub fill_up : PlacesFillUp
fill_up net ends live on p l most all = fills_up net ends live on p l most all
