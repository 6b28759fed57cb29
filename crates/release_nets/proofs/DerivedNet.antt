-- The net with the releases as inputs keeps the rules of a net.
use Rattle.std.proofs.Common.{ℕ, ◌+◌, ◌-◌, ◌<◌, ◌≤◌, ◌≡◌, ◌^◌, List, [], length, get_or, Some, refl, sym, subst, ◌∙◌, arith, ⊎_elim, inl}
use Rattle.std.specs.Prelude.{All}
use Rattle.std.proofs.lemmas.Bool.{cases_lt}
use Rattle.std.proofs.lemmas.Fmt.{decimal_injective}
use Rattle.std.proofs.lemmas.Option.{slice_get-get_or}
use Rattle.delay_laws.specs.declared.table.Timetable.{Timetable}
use Rattle.delay_laws.specs.PlannedTimetables.{IsPastDelays}
use Rattle.delay_laws.specs.Delays.{IsReleaseAt}
use Rattle.delay_laws.specs.ReleaseNets.{release_place}
use Rattle.teg_net.specs.declared.entries.InputList.{InputList}
use Rattle.teg_net.specs.declared.entries.Place.{Place}
use Rattle.teg_net.specs.declared.entries.Role.TheVariants.{Internal, Input}
use Rattle.teg_net.specs.declared.entries.Transition.{Transition}
use Rattle.teg_net.specs.Circuits.{no_place}
use Rattle.teg_net.specs.Nets.{EndsOrGoesOn, IsInput, IsInputOf, IsNet, IsPlaceOf, NetLists}
use Rattle.release_nets.specs.ReleaseNetsBuilt.{AreBuilt, ArePlannedReleases, IsDerivedList, IsDerivedTransition, IsNetMade, IsNumberName}
use Rattle.release_nets.proofs.Releasing.{releases_rise}

abbrev no_transition : Transition
no_transition = record { name = []; role = Internal }

-- names that are different numbers differ
numbers_differ : (i j : ℕ) (a b : List ℕ) → i < j → j ≤ 4400 → IsNumberName i a → IsNumberName j b → a ≡ b → ⊥
numbers_differ i j a b l few p q e =
    let small : i < 2 ^ 64 = omega arith in
    let low : j < 2 ^ 64 = omega arith in
    let same : i ≡ j = decimal_injective i j small low (sym p.is ∙ e ∙ q.is) in
    omega arith

is_input : (d : NetLists) (n k : ℕ) → AreBuilt (IsDerivedTransition n) (n + n) d.transitions → n ≤ k → k < n + n → IsInput d k
is_input d n k h le lt =
    let long = h.long in
    rw (slice_get-get_or d.transitions k no_transition (omega arith)) ((h.each k no_transition lt).input le)

is_own : (d : NetLists) (n k : ℕ) → AreBuilt (IsDerivedTransition n) (n + n) d.transitions → k < n → IsInput d k → ⊥
is_own d n k h lt input =
    let long = h.long in
    let role : (get_or d.transitions k no_transition).role ≡ Input = rw (slice_get-get_or d.transitions k no_transition (omega arith)) at input in
    let own = (h.each k no_transition (omega arith)).own lt in
    cc

own_place : (net d : NetLists) (q : Place) (name : List ℕ) → length d.transitions ≡ length net.transitions + length net.transitions
    → ((i : ℕ) → i < length net.transitions → IsInput d i → ⊥) → IsPlaceOf net q → IsPlaceOf d (record q { name = name })
own_place net d q name twice inner h =
    let from = h.from_in in
    let to = h.to_in in
    record {
      from_in = omega arith;
      to_in = omega arith;
      enters_no_input = inner q.to.index to;
      hold_in = h.hold_in;
      tokens_in = h.tokens_in;
      ready_all = h.ready_all;
      ready_in = h.ready_in;
    }

added_place : (net d : NetLists) (i : ℕ) (name : List ℕ) → length d.transitions ≡ length net.transitions + length net.transitions
    → ((i : ℕ) → i < length net.transitions → IsInput d i → ⊥) → i < length net.transitions → IsPlaceOf d (record (release_place (length net.transitions) i) { name = name })
added_place net d i name twice inner lt = record {
  from_in = omega arith;
  to_in = omega arith;
  enters_no_input = inner i lt;
  hold_in = omega arith;
  tokens_in = omega arith;
  ready_all = inl refl;
  ready_in = λ k e l. absurd (omega (arith, l));
}

each_place : (net : NetLists) (period : ℕ) (t : Timetable) (d : NetLists) → IsNet net → IsNetMade net period t d → All (IsPlaceOf d) d.places
each_place net period t d rules h k e lt =
    let n : ℕ = length net.transitions in
    let long = h.places.long in
    let within : k < length net.places + length net.transitions = omega arith in
    let is = h.places.each k e within in
    let inner = λ (i : ℕ) (l : i < n). is_own d n i h.transitions l in
    ⊎_elim
    (λ (own : k < length net.places).
    subst (IsPlaceOf d) (sym (is.own own)) (own_place net d (get_or net.places k no_place) (get_or d.places k e).name h.transitions.long inner (rules.each_place k no_place own)))
    (λ (added : length net.places ≤ k).
    let below : k - length net.places < length net.transitions = omega arith in
    subst (IsPlaceOf d) (sym (is.added added)) (added_place net d (k - length net.places) (get_or d.places k e).name h.transitions.long inner below))
    (cases_lt k (length net.places))

each_list : (net : NetLists) (period : ℕ) (t : Timetable) (d : NetLists) → IsNetMade net period t d → All (IsInputOf d) d.inputs
each_list net period t d h k e lt =
    let n : ℕ = length net.transitions in
    let long = h.lists.long in
    let below : k < length net.transitions = omega arith in
    let is = h.lists.each k e below in
    let l : InputList = get_or d.inputs k e in
    let few = is.few in
    let some = is.is.some in
    let small = h.planned.period_in in
    let least = h.planned.some in
    let narrow = h.planned.few in
    let input : IsInput d (n + k) = is_input d n (n + k) h.transitions (omega arith) (omega arith) in
    record {
      is_input = subst (λ (i : ℕ). IsInput d i) (sym is.is.of) input;
      few = omega arith;
      dates_in = is.small;
      never_falls = is.rises;
      again = subst (EndsOrGoesOn l.dates) (sym is.is.again) (record { some = omega arith; every_in = omega arith; gap_in = omega arith; enough = some; joins = omega arith });
    }

pub made_rules : (net : NetLists) (period : ℕ) (t : Timetable) (d : NetLists) → IsNet net → IsNetMade net period t d → IsNet d
made_rules net period t d rules h =
    let n : ℕ = length net.transitions in
    let some = rules.some_transition in
    let few = h.planned.few in
    let fits = h.planned.fits in
    let long = h.transitions.long in
    let wide = h.places.long in
    let deep = h.lists.long in
    record {
      some_transition = omega arith;
      few_transitions = omega arith;
      few_places = omega arith;
      transition_names = λ k e l. (h.transitions.each k e (omega (arith, l))).name.rule;
      place_names = λ k e l. (h.places.each k e (omega (arith, l))).name.rule;
      distinct_transitions = λ i j e l m.
          numbers_differ i j (get_or d.transitions i e).name (get_or d.transitions j e).name l (omega (arith, m))
          (h.transitions.each i e (omega (arith, l, m))).name (h.transitions.each j e (omega (arith, m))).name;
      distinct_places = λ i j e l m.
          numbers_differ i j (get_or d.places i e).name (get_or d.places j e).name l (omega (arith, m))
          (h.places.each i e (omega (arith, l, m))).name (h.places.each j e (omega (arith, m))).name;
      each_place = each_place net period t d rules h;
      one_list = λ i j e l m same.
          let one = (h.lists.each i e (omega (arith, l, m))).is.of in
          let two = (h.lists.each j e (omega (arith, m))).is.of in
          omega (arith, l);
      each_input = each_list net period t d h;
    }

-- the list of a transition
pub list_made : (period : ℕ) (t : Timetable) (n i last : ℕ) (l : InputList) → l.transition.index ≡ n + i → l.again ≡ Some (record { every = 1; gap = period })
    → 1 ≤ last → last ≤ 60000 → IsPastDelays period t i last → ArePlannedReleases period t i last l.dates → IsDerivedList period t n i l
list_made period t n i last l of again some few past h =
    let long = h.long in
    record {
      is = record {
        of = of;
        some = omega arith;
        past = subst (IsPastDelays period t i) (sym long) past;
        dates = λ k o m.
            let lt : k - 1 < last = omega (arith, o, m) in
            let e : k - 1 + 1 ≡ k = omega (arith, o) in
            subst (λ (z : ℕ). IsReleaseAt period t i z (get_or l.dates (k - 1) 0)) e (h.each (k - 1) lt);
        again = again;
      };
      few = omega arith;
      small = h.small;
      rises = releases_rise period t i last l.dates h;
    }
