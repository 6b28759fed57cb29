-- A net in which all places that leave an input lead to one transition at once: walks from there are those of the whole net.
use Rattle.std.proofs.Common.{ℕ, pos, ◌+◌, ◌-◌, ◌<◌, ◌≤◌, ◌≡◌, ◌≢◌, inl, inr, List, [], ◌∷◌, All, map, length, true, false, eqb, get_or, refl, sym, subst, ap, ◌∙◌, arith, ⊎_elim}
use Rattle.std.specs.Prelude.{AllPairs, IsTrue, ◌⊎◌}
use Rattle.std.proofs.lemmas.Bool.{cases_Bool}
use Rattle.std.proofs.lemmas.Bool.Decides.{nat_tests}
use Rattle.std.proofs.lemmas.List.{get_or-map, length-map}
use Rattle.std.proofs.lemmas.List.Elements.{All-cons, All-nil}
use Rattle.std.proofs.lemmas.List.Sums.{sum_by-cons}
use Rattle.dioid.specs.declared.dates.Date.{Date}
use Rattle.dioid.specs.declared.dates.Date.TheVariants.{Early, At}
use Rattle.teg_net.specs.declared.entries.Place.{Place}
use Rattle.teg_net.specs.declared.entries.PlaceId.{PlaceId}
use Rattle.teg_net.specs.declared.walks.Step.{Step}
use Rattle.teg_net.specs.declared.walks.Step.TheVariants.{By, Next}
use Rattle.teg_net.specs.Names.{is_name}
use Rattle.teg_net.specs.Circuits.{IsCircuit, IsLive, IsPathBetween, no_place, place_at, from_of, tokens_of}
use Rattle.teg_net.specs.Nets.{NetLists, IsNet, IsInput, IsInputOf, IsPlaceOf}
use Rattle.teg_net.specs.Walks.{Walks, step_time, walk_time}
use Rattle.walk_times.specs.Transfers.{AreWalkTimes, IsGreatestWalkTime}
use Rattle.walk_times.proofs.Walking.{input_within}
use Rattle.end_laws.specs.Ends.{EndsAreAsked, IsInner, LedNetsStand, Leaves, led_to, net_led_to}
use Rattle.end_laws.proofs.ByEnds.{Departs, LeadsIn, departs, sooner}

-- what the two kinds of places have
led_is : (u e : ℕ) (p : Place) → p.from.index ≡ u → led_to u e p ≡ record { name = p.name; from = p.from; to = record { index = e }; hold = 0; tokens = 0; ready = [] }
led_is u e p h = let b : eqb p.from.index u ≡ true = grind (arith, nat_tests) in rw b refl

kept_is : (u e : ℕ) (p : Place) → p.from.index ≢ u → led_to u e p ≡ record { name = p.name; from = p.from; to = p.to; hold = p.hold; tokens = p.tokens; ready = [] }
kept_is u e p h = let b : eqb p.from.index u ≡ false = grind (arith, nat_tests) in rw b refl

same_name : (u e : ℕ) (p : Place) → (led_to u e p).name ≡ p.name
same_name u e p = elim (cases_Bool (eqb p.from.index u)) [
  | inl b ↦ rw b refl
  | inr b ↦ rw b refl
]

same_from : (u e : ℕ) (p : Place) → (led_to u e p).from ≡ p.from
same_from u e p = elim (cases_Bool (eqb p.from.index u)) [
  | inl b ↦ rw b refl
  | inr b ↦ rw b refl
]

module _ (net : NetLists) (ok : IsNet net) (u e : ℕ) (is : IsInput net u) (end : IsInner net e) where
  abbrev led : NetLists
  led = net_led_to net u e

  at_led : (p : PlaceId) → p.index < length net.places → place_at led p ≡ led_to u e (place_at net p)
  at_led p l = get_or-map (led_to u e) net.places p.index no_place no_place l

  wide : length led.places ≡ length net.places
  wide = length-map net.places (led_to u e)

  -- a place that leaves u, and one that leaves another transition
  at_own : (p : PlaceId) → p.index < length net.places → from_of net p ≡ u
      → place_at led p ≡ record { name = (place_at net p).name; from = (place_at net p).from; to = record { index = e }; hold = 0; tokens = 0; ready = [] }
  at_own p l h = at_led p l ∙ led_is u e (place_at net p) h

  at_other : (p : PlaceId) → p.index < length net.places → from_of net p ≢ u
      → place_at led p ≡ record { name = (place_at net p).name; from = (place_at net p).from; to = (place_at net p).to; hold = (place_at net p).hold; tokens = (place_at net p).tokens; ready = [] }
  at_other p l h = at_led p l ∙ kept_is u e (place_at net p) h

  from_is : (p : PlaceId) → p.index < length net.places → from_of led p ≡ from_of net p
  from_is p l = ap (λ (q : Place). q.from.index) (at_led p l) ∙ ap (λ q. q.index) (same_from u e (place_at net p))

  not_u : (a : ℕ) → (IsInput net a → ⊥) → a ≢ u
  not_u a outside h = outside (subst (IsInput net) (sym h) is)

  on_outside : (p : PlaceId) → p.index < length net.places → IsInput net (place_at net p).to.index → ⊥
  on_outside p l = (ok.each_place p.index no_place l).enters_no_input

  -- walks that begin at no input are the same in both
  there : (steps : List Step) (a s t k : ℕ) → (IsInput net a → ⊥) → Walks net a s steps t k → Walks led a s steps t k × (walk_time led steps ≡ walk_time net steps)
  there [] a s t k outside w = (w, refl)
  there (By p ∷ steps) a s t k outside w =
      let other : from_of net p ≢ u = λ h. not_u a outside (sym w.1 ∙ h) in
      let at = at_other p w.0 other in
      let on = there steps (place_at net p).to.index (s + (place_at net p).tokens) t k (on_outside p w.0) w.2 in
      let one : walk_time led (By p ∷ steps) ≡ (place_at led p).hold + walk_time led steps = sum_by-cons (step_time led) (By p) steps in
      let two : walk_time net (By p ∷ steps) ≡ (place_at net p).hold + walk_time net steps = sum_by-cons (step_time net) (By p) steps in
      let hold : (place_at led p).hold ≡ (place_at net p).hold = ap (λ (q : Place). q.hold) at in (
        (
          omega (arith, w.0, wide),
          from_is p w.0 ∙ w.1,
          subst (λ (q : Place). Walks led q.to.index (s + q.tokens) steps t k) (sym at) on.0,
        ),
        omega (arith, one, two, hold, on.1),
      )
  there (Next ∷ steps) a s t k outside w =
      let on = there steps a (s + 1) t k outside w in
      let one : walk_time led (Next ∷ steps) ≡ 0 + walk_time led steps = sum_by-cons (step_time led) Next steps in
      let two : walk_time net (Next ∷ steps) ≡ 0 + walk_time net steps = sum_by-cons (step_time net) Next steps in
      (on.0, omega (arith, one, two, on.1))

  back : (steps : List Step) (a s t k : ℕ) → (IsInput net a → ⊥) → Walks led a s steps t k → Walks net a s steps t k × (walk_time led steps ≡ walk_time net steps)
  back [] a s t k outside w = (w, refl)
  back (By p ∷ steps) a s t k outside w =
      let l : p.index < length net.places = omega (arith, w.0, wide) in
      let from : from_of net p ≡ a = sym (from_is p l) ∙ w.1 in
      let other : from_of net p ≢ u = λ h. not_u a outside (sym from ∙ h) in
      let at = at_other p l other in
      let rest : Walks led (place_at net p).to.index (s + (place_at net p).tokens) steps t k = subst (λ (q : Place). Walks led q.to.index (s + q.tokens) steps t k) at w.2 in
      let on = back steps (place_at net p).to.index (s + (place_at net p).tokens) t k (on_outside p l) rest in
      let one : walk_time led (By p ∷ steps) ≡ (place_at led p).hold + walk_time led steps = sum_by-cons (step_time led) (By p) steps in
      let two : walk_time net (By p ∷ steps) ≡ (place_at net p).hold + walk_time net steps = sum_by-cons (step_time net) (By p) steps in
      let hold : (place_at led p).hold ≡ (place_at net p).hold = ap (λ (q : Place). q.hold) at in
      ((l, from, on.0), omega (arith, one, two, hold, on.1))
  back (Next ∷ steps) a s t k outside w =
      let on = back steps a (s + 1) t k outside w in
      let one : walk_time led (Next ∷ steps) ≡ 0 + walk_time led steps = sum_by-cons (step_time led) Next steps in
      let two : walk_time net (Next ∷ steps) ≡ 0 + walk_time net steps = sum_by-cons (step_time net) Next steps in
      (on.0, omega (arith, one, two, on.1))

  -- a walk from u in the one begins with a place that is not held and leads to e
  module _ (t : ℕ) (inner : IsInner net t) where
    apart : u ≢ t
    apart h = inner.1 (subst (IsInput net) h is)

    from_e : (steps : List Step) (k : ℕ) → Walks led u 1 steps t k → LeadsIn net e 1 t k (walk_time led steps)
    from_e steps k w =
        let out : Departs led u 1 t k steps = departs led u t k apart steps 1 w in
        let l : out.place.index < length net.places = omega (arith, out.leaves.0, wide) in
        let at = at_own out.place l (sym (from_is out.place l) ∙ out.leaves.1) in
        let is' : (1 + 0) + out.more ≡ 1 + out.more = omega arith in
        let rest : Walks led e (1 + out.more) out.rest t k =
        subst (λ (n : ℕ). Walks led e n out.rest t k) is' (subst (λ (q : Place). Walks led q.to.index ((1 + q.tokens) + out.more) out.rest t k) at out.walk) in
        let own = back out.rest e (1 + out.more) t k end.1 rest in
        let all : LeadsIn net e 1 t k (walk_time net out.rest) = sooner net out.more e 1 t k out.rest own.0 in
        let hold : (place_at led out.place).hold ≡ 0 = ap (λ (q : Place). q.hold) at in
        record { steps = all.steps; walk = all.walk; takes = omega (arith, all.takes, out.time, hold, own.1) }

    -- and a walk from e in the other goes on from any place that leaves u
    from_u : (p : PlaceId) → Leaves net u p → (steps : List Step) (k : ℕ) → Walks net e 1 steps t k → LeadsIn led u 1 t k (walk_time net steps)
    from_u p leaves steps k w =
        let at = at_own p leaves.0 leaves.1 in
        let on = there steps e 1 t k end.1 w in
        let is' : 1 ≡ 1 + 0 = omega arith in
        let walk : Walks led e (1 + 0) steps t k = subst (λ (n : ℕ). Walks led e n steps t k) is' on.0 in
        let one : walk_time led (By p ∷ steps) ≡ (place_at led p).hold + walk_time led steps = sum_by-cons (step_time led) (By p) steps in
        let hold : (place_at led p).hold ≡ 0 = ap (λ (q : Place). q.hold) at in
        record {
          steps = By p ∷ steps;
          walk = (omega (arith, leaves.0, wide), from_is p leaves.0 ∙ leaves.1, subst (λ (q : Place). Walks led q.to.index (1 + q.tokens) steps t k) (sym at) walk);
          takes = omega (arith, one, hold, on.1);
        }

    pub time_of_end : (p : PlaceId) → Leaves net u p → (k : ℕ) (d : Date) → IsGreatestWalkTime led u t k d → IsGreatestWalkTime net e t k d
    time_of_end p leaves k d h = record {
      reached = ⊎_elim
          (λ (n : (d ≡ Early) × ((steps : List Step) → Walks led u 1 steps t k → ⊥)).
          inl (n.0, λ steps w. let on = from_u p leaves steps k w in n.1 on.steps on.walk))
          (λ (o : (steps : List Step) × Walks led u 1 steps t k × (d ≡ At (pos (walk_time led steps)))).
          let on = from_e o.0 k o.1 in
          inr (on.steps, on.walk, o.2 ∙ ap (λ (n : ℕ). At (pos n)) (sym on.takes)))
          h.reached;
      greatest = λ steps w. let on = from_u p leaves steps k w in rw (sym on.takes) (h.greatest on.steps on.walk);
    }

  -- ---- it is a net

  led_place : (p : Place) → IsPlaceOf net p → IsPlaceOf led (led_to u e p)
  led_place p h = elim (cases_Bool (eqb p.from.index u)) [
    | inl b ↦ rw b (record {
      from_in = h.from_in;
      to_in = end.0;
      enters_no_input = end.1;
      hold_in = omega arith;
      tokens_in = omega arith;
      ready_all = inl refl;
      ready_in = λ i d l. absurd (omega arith);
    })
    | inr b ↦ rw b (record {
      from_in = h.from_in;
      to_in = h.to_in;
      enters_no_input = h.enters_no_input;
      hold_in = h.hold_in;
      tokens_in = h.tokens_in;
      ready_all = inl refl;
      ready_in = λ i d l. absurd (omega arith);
    })
  ]

  -- what holds of each place of the net, led, holds of each of the other
  all_led : (Q : Place → Type 0) → ((p : Place) (i : ℕ) → i < length net.places → p ≡ get_or net.places i no_place → Q (led_to u e p)) → All Q led.places
  all_led Q h i d l =
      let low : i < length net.places = omega (arith, l, wide) in
      rw (get_or-map (led_to u e) net.places i no_place d low) (h (get_or net.places i no_place) i low refl)

  distinct : AllPairs (λ p q. p.name ≢ q.name) led.places
  distinct i j d l m =
      let high : j < length net.places = omega (arith, m, wide) in
      let low : i < length net.places = omega arith in
      rw (get_or-map (led_to u e) net.places i no_place d low, get_or-map (led_to u e) net.places j no_place d high, same_name u e (get_or net.places i no_place), same_name u e (get_or net.places j no_place))
      (ok.distinct_places i j no_place l high)

  pub led_is_net : IsNet led
  led_is_net = record {
    some_transition = ok.some_transition;
    few_transitions = ok.few_transitions;
    few_places = omega (arith, ok.few_places, wide);
    transition_names = ok.transition_names;
    place_names = all_led (λ p. IsTrue (is_name p.name)) (λ p i l at. rw (same_name u e p, at) (ok.place_names i no_place l));
    distinct_transitions = ok.distinct_transitions;
    distinct_places = distinct;
    each_place = all_led (IsPlaceOf led) (λ p i l at. led_place p (rw at (ok.each_place i no_place l)));
    one_list = λ i j d l m. absurd (omega arith);
    each_input = λ i d l. absurd (omega arith);
  }

  -- ---- no circuit goes by u, so it has no other ones

  -- the places of a path from no input are those of the net, with the tokens of these
  path_back : (ps : List PlaceId) (a b : ℕ) → (IsInput net a → ⊥) → IsPathBetween led a ps b → IsPathBetween net a ps b × (tokens_of led ps ≡ tokens_of net ps)
  path_back [] a b outside h = (h, refl)
  path_back (p ∷ ps) a b outside h =
      let l : p.index < length net.places = omega (arith, h.0, wide) in
      let from : from_of net p ≡ a = sym (from_is p l) ∙ h.1 in
      let other : from_of net p ≢ u = λ n. not_u a outside (sym from ∙ n) in
      let at = at_other p l other in
      let rest : IsPathBetween led (place_at net p).to.index ps b = subst (λ (q : Place). IsPathBetween led q.to.index ps b) at h.2 in
      let on = path_back ps (place_at net p).to.index b (on_outside p l) rest in
      let one : tokens_of led (p ∷ ps) ≡ (place_at led p).tokens + tokens_of led ps = sum_by-cons (λ q. (place_at led q).tokens) p ps in
      let two : tokens_of net (p ∷ ps) ≡ (place_at net p).tokens + tokens_of net ps = sum_by-cons (λ q. (place_at net q).tokens) p ps in
      let same : (place_at led p).tokens ≡ (place_at net p).tokens = ap (λ (q : Place). q.tokens) at in
      ((l, from, on.0), omega (arith, one, two, same, on.1))

  -- each place of a path is one of the net
  in_net : (ps : List PlaceId) (a b : ℕ) → IsPathBetween net a ps b → All (λ p. p.index < length net.places) ps
  in_net [] a b h = All-nil (λ p. p.index < length net.places)
  in_net (p ∷ ps) a b h = All-cons (λ q. q.index < length net.places) p ps h.0 (in_net ps (place_at net p).to.index b h.2)

  -- a path that is not empty ends at no input
  ends_outside : (ps : List PlaceId) (a b : ℕ) → 0 < length ps → IsPathBetween led a ps b → IsInput net b → ⊥
  ends_outside [] a b some h i = absurd (omega arith)
  ends_outside (p ∷ []) a b some h i = (led_is_net.each_place p.index no_place h.0).enters_no_input (subst (IsInput net) (sym h.2) i)
  ends_outside (p ∷ (q ∷ ps)) a b some h i = ends_outside (q ∷ ps) (place_at led p).to.index b (omega arith) h.2 i

  pub led_is_live : IsLive net → IsLive led
  led_is_live live ps circuit none =
      let a = circuit.closed.0 in
      let outside : IsInput net a → ⊥ = ends_outside ps a a circuit.not_empty circuit.closed.1 in
      let on = path_back ps a a outside circuit.closed.1 in
      live ps
      (record {
        not_empty = circuit.not_empty;
        closed = (a, on.0);
        leaves_once = λ i j d l m e'.
            let range = in_net ps a a on.0 in
            let low : i < length ps = omega arith in
            circuit.leaves_once i j d l m (from_is (get_or ps i d) (range i d low) ∙ (e' ∙ sym (from_is (get_or ps j d) (range j d m))));
      })
      (sym on.1 ∙ none)

pub ends_are_asked : EndsAreAsked
ends_are_asked net ok u e is end p leaves x h t k inner one = time_of_end net ok u e is end t inner p leaves k (x t k) (h t k inner.0 one)

pub led_nets_stand : LedNetsStand
led_nets_stand net ok u e is end = (led_is_net net ok u e is end, led_is_live net ok u e is end)
