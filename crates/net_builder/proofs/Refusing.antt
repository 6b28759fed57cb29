-- The first rule of nets that lists with one more entry break.
use Rattle.std.proofs.Common.{◌<◌, ◌≤◌, ◌≡◌, ◌≢◌, List, [], ◌∷◌, ◌++◌, length, get_or, take, refl, sym, subst, arith, Some}
use Rattle.std.specs.Prelude.{All, AllPairs, Any, IsSomeAnd, slice_get}
use Rattle.std.proofs.lemmas.List.{length_push, take_at}
use Rattle.teg_net.specs.declared.entries.InputList.{InputList}
use Rattle.teg_net.specs.declared.entries.Place.{Place}
use Rattle.teg_net.specs.declared.entries.Transition.{Transition}
use Rattle.teg_net.specs.declared.faults.InputFault.{InputFault}
use Rattle.teg_net.specs.declared.faults.PlaceFault.{PlaceFault}
use Rattle.teg_net.specs.Limits.{most_places, most_transitions}
use Rattle.teg_net.specs.NetFaults.{IsFirstRepeat, IsFirstBreach, IsInputFault, IsNetFault, IsOfNetSize, IsPlaceFault}
use Rattle.teg_net.specs.declared.faults.NetFault.TheVariants.{ManyTransitions, ManyPlaces, SameTransition, SamePlace, BadPlace, SameInput, BadInput}
use Rattle.teg_net.specs.Nets.{IsNet, IsPlaceOf, IsInputOf, lists_of, transitions_alone}
use Rattle.teg_net.proofs.NetFaultLaws.{bad_place_along, bad_input_along}
use Rattle.teg_net.proofs.NetRules.{place_along, input_along}
use Rattle.net_builder.proofs.Growing.{apart_more}

-- the last entry stands behind the others
last_there : {X : Type 0} (xs : List X) (x : X) → slice_get (xs ++ x ∷ []) (length xs) ≡ Some x
last_there [] x = refl
last_there (y ∷ ys) x = last_there ys x

-- the last entry has the key of an earlier one, and no two before it have one
repeats_last :
    {X Y : Type 0} (key : X → Y) (xs : List X) (x : X) → AllPairs (λ a b. key a ≢ key b) xs → Any (λ y. key y ≡ key x) xs
    → IsFirstRepeat key (xs ++ x ∷ []) (length xs)
repeats_last key xs x apart any =
    let front : take (length xs) (xs ++ x ∷ []) ≡ xs = take_at xs (x ∷ []) (length xs) refl in
    record {
      here =
          subst (λ o. IsSomeAnd o (λ z. Any (λ y. key y ≡ key z) (take (length xs) (xs ++ x ∷ [])))) (sym (last_there xs x))
          (subst (Any (λ y. key y ≡ key x)) (sym front) any);
      before = subst (AllPairs (λ a b. key a ≢ key b)) (sym front) apart;
    }

-- the last entry breaks a rule, and each before it keeps all of them
breaks_last : {X : Type 0} (Keeps Breaks : X → Type 0) (xs : List X) (x : X) → All Keeps xs → Breaks x → IsFirstBreach Keeps Breaks (xs ++ x ∷ []) (length xs)
breaks_last Keeps Breaks xs x all breaks = record {
  here = subst (λ o. IsSomeAnd o Breaks) (sym (last_there xs x)) breaks;
  before = subst (All Keeps) (sym (take_at xs (x ∷ []) (length xs) refl)) all;
}

module _ (ts : List Transition) (ps : List Place) (ls : List InputList) (ok : IsNet (lists_of ts ps ls)) where
  pub many_transitions : (t : Transition) → most_transitions ≤ length ts → IsNetFault (lists_of (ts ++ t ∷ []) ps ls) ManyTransitions
  many_transitions t many = let more = length_push ts t in omega (arith, more, many)

  pub same_transition :
      (t : Transition) → length ts < most_transitions → Any (λ x. x.name ≡ t.name) ts
      → IsNetFault (lists_of (ts ++ t ∷ []) ps ls) (SameTransition (record { index = length ts }))
  same_transition t few any =
      let more = length_push ts t in
      ((omega (arith, more), omega (arith, more, few), ok.few_places), repeats_last (λ (x : Transition). x.name) ts t ok.distinct_transitions any)

  pub many_places : (p : Place) → most_places ≤ length ps → IsNetFault (lists_of ts (ps ++ p ∷ []) ls) ManyPlaces
  many_places p many = let more = length_push ps p in (ok.some_transition, ok.few_transitions, omega (arith, more, many))

  -- with one more place the lists are of a net's size still
  few_still : (p : Place) → length ps < most_places → IsOfNetSize (lists_of ts (ps ++ p ∷ []) ls)
  few_still p few = let more = length_push ps p in (ok.some_transition, ok.few_transitions, omega (arith, more, few))

  pub same_place :
      (p : Place) → length ps < most_places → Any (λ x. x.name ≡ p.name) ps
      → IsNetFault (lists_of ts (ps ++ p ∷ []) ls) (SamePlace (record { index = length ps }))
  same_place p few any = (few_still p few, ok.distinct_transitions, repeats_last (λ (x : Place). x.name) ps p ok.distinct_places any)

  pub bad_place :
      (p : Place) (fault : PlaceFault) → length ps < most_places → (Any (λ x. x.name ≡ p.name) ps → ⊥) → IsPlaceFault (transitions_alone ts) p fault
      → IsNetFault (lists_of ts (ps ++ p ∷ []) ls) (BadPlace (record { index = length ps }) fault)
  bad_place p fault few none breaks = (
    few_still p few,
    ok.distinct_transitions,
    apart_more (λ (x : Place). x.name) ps p ok.distinct_places none,
    bad_place_along ts (ps ++ p ∷ []) ls fault (ps ++ p ∷ []) (length ps)
        (breaks_last (IsPlaceOf (transitions_alone ts)) (λ x. IsPlaceFault (transitions_alone ts) x fault) ps p
        (λ k d l. place_along ts ps [] ls [] (get_or ps k d) (ok.each_place k d l)) breaks),
  )

  -- each place stands beside one more list
  places_still : (l : InputList) → All (IsPlaceOf (lists_of ts ps (ls ++ l ∷ []))) ps
  places_still l k d m = place_along ts ps ps ls (ls ++ l ∷ []) (get_or ps k d) (ok.each_place k d m)

  pub same_input :
      (l : InputList) → Any (λ x. x.transition.index ≡ l.transition.index) ls → IsNetFault (lists_of ts ps (ls ++ l ∷ [])) (SameInput (length ls))
  same_input l any = (
    (ok.some_transition, ok.few_transitions, ok.few_places),
    ok.distinct_transitions,
    ok.distinct_places,
    places_still l,
    repeats_last (λ (x : InputList). x.transition.index) ls l ok.one_list any,
  )

  pub bad_input :
      (l : InputList) (fault : InputFault) → (Any (λ x. x.transition.index ≡ l.transition.index) ls → ⊥) → IsInputFault (transitions_alone ts) l fault
      → IsNetFault (lists_of ts ps (ls ++ l ∷ [])) (BadInput (length ls) fault)
  bad_input l fault none breaks = (
    (ok.some_transition, ok.few_transitions, ok.few_places),
    ok.distinct_transitions,
    ok.distinct_places,
    places_still l,
    apart_more (λ (x : InputList). x.transition.index) ls l ok.one_list none,
    bad_input_along ts ps (ls ++ l ∷ []) fault (ls ++ l ∷ []) (length ls)
        (breaks_last (IsInputOf (transitions_alone ts)) (λ x. IsInputFault (transitions_alone ts) x fault) ls l
        (λ k d m. input_along ts ps [] ls [] (get_or ls k d) (ok.each_input k d m)) breaks),
  )
