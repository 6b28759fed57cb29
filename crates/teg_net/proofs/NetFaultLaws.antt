-- How faults of lists are looked for, and what a fault says against the rules of a net.
use Rattle.std.proofs.Common.{ℕ, ◌+◌, ◌-◌, ◌<◌, ◌≤◌, ◌≡◌, ◌≢◌, ◌⊎◌, ◌∙◌, List, [], length, get_or, take, sym, ap, subst, arith, ⊎_elim, Option, Some, None, inl, inr}
use Rattle.std.specs.Prelude.{All, AllPairs, Any, IsSomeAnd, slice_get}
use Rattle.std.proofs.lemmas.List.{get_or_default, get_or-take, length-take, take_more}
use Rattle.std.proofs.lemmas.List.Quantifiers.{all_pairs_push}
use Rattle.std.proofs.lemmas.Option.{slice_get_cases}
use Rattle.teg_net.specs.declared.entries.Again.{Again}
use Rattle.teg_net.specs.declared.entries.InputList.{InputList}
use Rattle.teg_net.specs.declared.entries.Place.{Place}
use Rattle.teg_net.specs.declared.faults.NetFault.{NetFault}
use Rattle.teg_net.specs.declared.faults.NetFault.TheVariants.{NoTransition, ManyTransitions, ManyPlaces, SameTransition, SamePlace, BadPlace, SameInput, BadInput}
use Rattle.teg_net.specs.declared.faults.PlaceFault.{PlaceFault}
use Rattle.teg_net.specs.declared.faults.PlaceFault.TheVariants.{UnknownFrom, UnknownTo, EntersInput, LongHold, ManyTokens, ReadyCount, LateReady}
use Rattle.teg_net.specs.declared.faults.InputFault.{InputFault}
use Rattle.teg_net.specs.declared.faults.InputFault.TheVariants.{NoInput, ManyDates, LateDate, FallingDates, EveryZero, GreatEvery, GreatGap, FewDates, EarlyNext}
use Rattle.teg_net.specs.Limits.{greatest_input_date}
use Rattle.teg_net.specs.Nets.{NetLists, IsNet, IsPlaceOf, IsInputOf, ListGoesOn, EndsOrGoesOn, lists_of, transitions_alone}
use Rattle.teg_net.proofs.NetRules.{place_along, input_along}
use Rattle.teg_net.specs.declared.entries.Transition.{Transition}
use Rattle.teg_net.specs.NetFaults.{IsFirstRepeat, IsFirstBreach, IsPlaceFault, IsAgainFault, IsInputFault, IsNetFault}

-- no entry up to the one at i has the key of an earlier one
pub repeat_apart :
    {X Y : Type 0} (key : X → Y) (xs : List X) (i : ℕ) (x : X) (y : Y) → i < length xs → x ≡ get_or xs i x → key x ≡ y
    → (Any (λ z. key z ≡ y) (take i xs) → ⊥) → AllPairs (λ a b. key a ≢ key b) (take i xs) → AllPairs (λ a b. key a ≢ key b) (take (i + 1) xs)
repeat_apart key xs i x y l is named none before =
    subst
    (AllPairs (λ a b. key a ≢ key b))
    (sym (take_more xs i x l))
    (all_pairs_push (λ a b. key a ≢ key b) (take i xs) (get_or xs i x) before
    (λ k d m same.
    let z = get_or (take i xs) k d in
    none (k, z, m, get_or_default (take i xs) k z d m, same ∙ (ap key (sym is) ∙ named))))

-- an entry that is there
there : {X : Type 0} (P : X → Type 0) (xs : List X) (i : ℕ) → IsSomeAnd (slice_get xs i) P → (x : X) × (i < length xs) × (get_or xs i x ≡ x) × P x
there P xs i h = elim (slice_get_cases xs i).1 [
  | inl (x, l, here, is) ↦ (x, l, is, rw here at h)
  | inr (past, here) ↦ absurd (rw here at h)
]

-- a repeated key stands against entries that are apart
pub repeat_breaks : {X Y : Type 0} (key : X → Y) (xs : List X) (i : ℕ) → IsFirstRepeat key xs i → AllPairs (λ a b. key a ≢ key b) xs → ⊥
repeat_breaks key xs i h apart =
    let (x, l, is, (k, y, m, r, same)) = there (λ x. Any (λ y. key y ≡ key x) (take i xs)) xs i h.here in
    let below : k < i = omega (arith, m, length-take i xs) in
    let read : get_or xs k y ≡ y = sym (get_or-take i xs k y below) ∙ r in
    let far : get_or xs i y ≡ x = get_or_default xs i y x l ∙ is in
    apart k i y below l (ap key read ∙ (same ∙ ap key (sym far)))

-- a first breach stands against rules that all keep
pub breach_breaks :
    {X : Type 0} (Keeps Breaks : X → Type 0) (xs : List X) (i : ℕ) → ((x : X) → Breaks x → Keeps x → ⊥) → IsFirstBreach Keeps Breaks xs i → All Keeps xs → ⊥
breach_breaks Keeps Breaks xs i against h all =
    let (x, l, is, breaks) = there Breaks xs i h.here in
    against x breaks (subst Keeps is (all i x l))

-- a date past the limit
late_breaks : (dates : List ℕ) → Any (λ d. greatest_input_date < d) dates → All (λ d. d ≤ greatest_input_date) dates → ⊥
late_breaks dates (k, d, l, is, late) all = let few = all k d l in omega (arith, few, is, late)

place_breaks : (net : NetLists) (fault : PlaceFault) (p : Place) → IsPlaceFault net p fault → IsPlaceOf net p → ⊥
place_breaks net UnknownFrom p h ok = omega (arith, h, ok.from_in)
place_breaks net UnknownTo p h ok = omega (arith, h.1, ok.to_in)
place_breaks net EntersInput p h ok = ok.enters_no_input h.1
place_breaks net LongHold p h ok = omega (arith, h.1, ok.hold_in)
place_breaks net ManyTokens p h ok = omega (arith, h.2, ok.tokens_in)
place_breaks net ReadyCount p h ok = ⊎_elim h.3 h.4 ok.ready_all
place_breaks net LateReady p h ok = late_breaks p.ready h.4 ok.ready_in

again_breaks : (dates : List ℕ) (a : Again) (fault : InputFault) → IsAgainFault dates a fault → ListGoesOn dates a → ⊥
again_breaks dates a EveryZero h ok = omega (arith, h, ok.some)
again_breaks dates a GreatEvery h ok = omega (arith, h, ok.every_in)
again_breaks dates a GreatGap h ok = omega (arith, h.2, ok.gap_in)
again_breaks dates a FewDates h ok = omega (arith, h.3, ok.enough)
again_breaks dates a EarlyNext h ok = omega (arith, h.4, ok.joins)
again_breaks dates a NoInput h ok = h
again_breaks dates a ManyDates h ok = h
again_breaks dates a LateDate h ok = h
again_breaks dates a FallingDates h ok = h

some_again : (dates : List ℕ) (o : Option Again) (fault : InputFault) → IsSomeAnd o (λ a. IsAgainFault dates a fault) → EndsOrGoesOn dates o → ⊥
some_again dates (Some a) fault h ok = again_breaks dates a fault h ok
some_again dates None fault h ok = h

input_breaks : (net : NetLists) (fault : InputFault) (l : InputList) → IsInputFault net l fault → IsInputOf net l → ⊥
input_breaks net NoInput l h ok = h ok.is_input
input_breaks net ManyDates l h ok = omega (arith, h.1, ok.few)
input_breaks net LateDate l h ok = late_breaks l.dates h.2 ok.dates_in
input_breaks net FallingDates l h ok = h.3 ok.never_falls
input_breaks net EveryZero l h ok = some_again l.dates l.again EveryZero h.4 ok.again
input_breaks net GreatEvery l h ok = some_again l.dates l.again GreatEvery h.4 ok.again
input_breaks net GreatGap l h ok = some_again l.dates l.again GreatGap h.4 ok.again
input_breaks net FewDates l h ok = some_again l.dates l.again FewDates h.4 ok.again
input_breaks net EarlyNext l h ok = some_again l.dates l.again EarlyNext h.4 ok.again

-- what is a fault of lists breaks a rule of nets
pub fault_breaks : (net : NetLists) (fault : NetFault) → IsNetFault net fault → IsNet net → ⊥
fault_breaks net NoTransition h ok = omega (arith, h, ok.some_transition)
fault_breaks net ManyTransitions h ok = omega (arith, h, ok.few_transitions)
fault_breaks net ManyPlaces h ok = omega (arith, h.2, ok.few_places)
fault_breaks net (SameTransition t) h ok = repeat_breaks _ net.transitions t.index h.1 ok.distinct_transitions
fault_breaks net (SamePlace p) h ok = repeat_breaks _ net.places p.index h.2 ok.distinct_places
fault_breaks net (BadPlace p fault) h ok = breach_breaks (IsPlaceOf net) _ net.places p.index (place_breaks net fault) h.3 ok.each_place
fault_breaks net (SameInput i) h ok = repeat_breaks _ net.inputs i h.4 ok.one_list
fault_breaks net (BadInput i fault) h ok = breach_breaks (IsInputOf net) _ net.inputs i (input_breaks net fault) h.5 ok.each_input

-- ---- faults told of the transitions alone are those of each net that has them

some_along : {X : Type 0} (P Q : X → Type 0) (o : Option X) → ((x : X) → P x → Q x) → IsSomeAnd o P → IsSomeAnd o Q
some_along P Q (Some x) along h = along x h
some_along P Q None along h = h

module _ (ts : List Transition) (ps : List Place) (ls : List InputList) where
  place_fault_along : (fault : PlaceFault) (p : Place) → IsPlaceFault (transitions_alone ts) p fault → IsPlaceFault (lists_of ts ps ls) p fault
  place_fault_along UnknownFrom p h = h
  place_fault_along UnknownTo p h = h
  place_fault_along EntersInput p h = h
  place_fault_along LongHold p h = h
  place_fault_along ManyTokens p h = h
  place_fault_along ReadyCount p h = h
  place_fault_along LateReady p h = h

  input_fault_along : (fault : InputFault) (l : InputList) → IsInputFault (transitions_alone ts) l fault → IsInputFault (lists_of ts ps ls) l fault
  input_fault_along NoInput l h = h
  input_fault_along ManyDates l h = h
  input_fault_along LateDate l h = h
  input_fault_along FallingDates l h = h
  input_fault_along EveryZero l h = h
  input_fault_along GreatEvery l h = h
  input_fault_along GreatGap l h = h
  input_fault_along FewDates l h = h
  input_fault_along EarlyNext l h = h

  pub places_along : (qs : List Place) → All (IsPlaceOf (transitions_alone ts)) qs → All (IsPlaceOf (lists_of ts ps ls)) qs
  places_along qs all k d l = place_along ts [] ps [] ls (get_or qs k d) (all k d l)

  pub inputs_along : (ms : List InputList) → All (IsInputOf (transitions_alone ts)) ms → All (IsInputOf (lists_of ts ps ls)) ms
  inputs_along ms all k d l = input_along ts [] ps [] ls (get_or ms k d) (all k d l)

  pub bad_place_along :
      (fault : PlaceFault) (qs : List Place) (i : ℕ) → IsFirstBreach (IsPlaceOf (transitions_alone ts)) (λ p. IsPlaceFault (transitions_alone ts) p fault) qs i
      → IsFirstBreach (IsPlaceOf (lists_of ts ps ls)) (λ p. IsPlaceFault (lists_of ts ps ls) p fault) qs i
  bad_place_along fault qs i h = record {
    here = some_along (λ p. IsPlaceFault (transitions_alone ts) p fault) (λ p. IsPlaceFault (lists_of ts ps ls) p fault) (slice_get qs i) (place_fault_along fault) h.here;
    before = places_along (take i qs) h.before;
  }

  pub bad_input_along :
      (fault : InputFault) (ms : List InputList) (i : ℕ) → IsFirstBreach (IsInputOf (transitions_alone ts)) (λ l. IsInputFault (transitions_alone ts) l fault) ms i
      → IsFirstBreach (IsInputOf (lists_of ts ps ls)) (λ l. IsInputFault (lists_of ts ps ls) l fault) ms i
  bad_input_along fault ms i h = record {
    here = some_along (λ l. IsInputFault (transitions_alone ts) l fault) (λ l. IsInputFault (lists_of ts ps ls) l fault) (slice_get ms i) (input_fault_along fault) h.here;
    before = inputs_along (take i ms) h.before;
  }
