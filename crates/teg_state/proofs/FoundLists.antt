-- The lists that are left give the inputs of the net that is left their dates.
use Rattle.std.proofs.Common.{ℕ, zero, suc, pos, ◌+◌, ◌<◌, ◌≤◌, ◌≡◌, List, [], ◌∷◌, ◌++◌, Option, Some, None, true, false, eqb, length, map, refl, sym, subst, ap, ◌∙◌, arith, ⊎_elim}
use Rattle.std.specs.Prelude.{IsSomeAnd, find, slice_get, ◌==◌}
use Rattle.std.proofs.lemmas.Bool.{cases_Bool, cases_lt}
use Rattle.std.proofs.lemmas.Bool.Decides.{nat_tests}
use Rattle.std.proofs.lemmas.Int.{ints, clamps}
use Rattle.std.proofs.lemmas.List.{length_push, get_or_append_left, get_or_push}
use Rattle.std.proofs.lemmas.List.Elements.{All-push}
use Rattle.teg_model.specs.dioid.declared.dates.Date.TheVariants.{At}
use Rattle.teg_model.specs.dioid.Dates.{later_of}
use Rattle.teg_net.specs.declared.entries.InputList.{InputList}
use Rattle.teg_net.specs.declared.entries.TransitionId.{TransitionId}
use Rattle.teg_net.specs.Inputs.{IsInputDates, AreInputDates, date_by_list, input_date, list_of_input}
use Rattle.teg_net.specs.Nets.{NetLists, IsNet, IsInput, IsInputOf}
use Rattle.teg_net.proofs.InputDates.{found_rules, IsInputDates-list_date, IsInputDate-input_date}
use Rattle.teg_model.specs.Datings.{as_date}
use Rattle.run_laws.specs.declared.fired.Fired.{Fired}
use Rattle.state_laws.specs.NetsLeft.{IsNetAfter, count_in, place_after}
use Rattle.teg_state.specs.LeftLists.{AreListsLeft, AreNear, AreWithinLimits, IsFarInput, IsListOf, again_by_list, left_date, left_dates, list_with}

-- ---- the list of an input

found_is : (xs : List InputList) (t : ℕ) (l : InputList) → Some l ≡ find (λ x. x.transition.index == t) xs → l.transition.index ≡ t
found_is [] t l e = absurd (cc)
found_is (x ∷ xs) t l e =
    ⊎_elim
    (λ (b : eqb x.transition.index t ≡ true).
    let is : Some l ≡ Some x = rw b at e in
    let same : l ≡ x = cc in
    let here : x.transition.index ≡ t = grind (arith, nat_tests) in
    ap (λ m. m.transition.index) same ∙ here)
    (λ (b : eqb x.transition.index t ≡ false). found_is xs t l (rw b at e))
    (cases_Bool (eqb x.transition.index t))

pub list_is_of : (net : NetLists) (t : ℕ) (l : InputList) → IsNet net → IsInput net t → Some l ≡ list_of_input net t → l.transition.index ≡ t
list_is_of net t l ok i e = found_is net.inputs t l e

pub list_tells : (net : NetLists) (t : ℕ) (l : InputList) → IsNet net → IsInput net t → Some l ≡ list_of_input net t → IsListOf net l
list_tells net t l ok i e =
    let rules : IsInputOf net l = found_rules net net.inputs t l ok.each_input e in
    let own : IsInputDates l (input_date net t) = subst (λ o. IsInputDates l (date_by_list o)) e (IsInputDates-list_date l rules.again) in
    record {
      listed = subst (λ j. list_of_input net j ≡ Some l) (sym (found_is net.inputs t l e)) (sym e);
      rules = rules;
      dates = subst (λ j. IsInputDates l (input_date net j)) (sym (found_is net.inputs t l e)) own;
    }

-- dates that a list tells are those of its transition
pub told_of : (net : NetLists) (run : List Fired) (now : ℕ) (transition : TransitionId) (l : InputList) (dates : List ℕ) → l.transition.index ≡ transition.index
    → IsInputDates (list_with l dates) (left_dates net run now l.transition.index)
    → IsInputDates (record { transition = transition; dates = dates; again = l.again }) (left_dates net run now transition.index)
told_of net run now transition l dates e h =
    let m : InputList = record { transition = transition; dates = dates; again = l.again } in
    subst (λ j. IsInputDates m (left_dates net run now j)) e (record { listed = h.listed; past = h.past })

-- a list that is so shows that the input is not far
pub near_by : (net : NetLists) (run : List Fired) (now t : ℕ) (l : InputList) (o : Option InputList) → o ≡ list_of_input net t → l.again ≡ again_by_list o → AreWithinLimits l.again l.dates
    → IsInputDates l (left_dates net run now t) → IsFarInput net run now t → ⊥
near_by net run now t l o e again within told far = far.no_list l (again ∙ ap again_by_list e) within told

-- ---- one transition after the other

-- none of one more transition is far
pub near_more : (net : NetLists) (run : List Fired) (now i : ℕ) → AreNear net run now i → (IsFarInput net run now i → ⊥) → AreNear net run now (i + 1)
near_more net run now i h here t m =
    ⊎_elim
    (λ (q : t < i). h t q)
    (λ (q : i ≤ t). let is : t ≡ i = omega (arith, m, q) in rw is here)
    (cases_lt t i)

pub lists_more : (net : NetLists) (run : List Fired) (now i : ℕ) (lists : List InputList) (l : InputList) → AreListsLeft net run now i lists → l.transition.index ≡ i
    → IsInputDates l (left_dates net run now i) → AreListsLeft net run now (i + 1) (lists ++ l ∷ [])
lists_more net run now i lists l h e is = record {
  each = All-push (λ m. IsInputDates m (left_dates net run now m.transition.index)) lists l h.each (subst (λ j. IsInputDates l (left_dates net run now j)) (sym e) is);
  every = λ t m in'.
      ⊎_elim
      (λ (q : t < i).
      let a = h.every t q in' in
      (a.0, a.1, omega (arith, a.2, length_push lists l), get_or_append_left lists (l ∷ []) a.1 a.0 a.2 ∙ a.3, a.4))
      (λ (q : i ≤ t).
      let here : i ≡ t = omega (arith, m, q) in
      (length lists, l, omega (arith, length_push lists l), get_or_push lists l l (length lists) refl, e ∙ here))
      (cases_lt t i);
}

pub lists_same : (net : NetLists) (run : List Fired) (now i : ℕ) (lists : List InputList) → AreListsLeft net run now i lists → (IsInput net i → ⊥) → AreListsLeft net run now (i + 1) lists
lists_same net run now i lists h none = record {
  each = h.each;
  every = λ t m in'.
      ⊎_elim
      (λ (q : t < i). h.every t q in')
      (λ (q : i ≤ t).
      let here : t ≡ i = omega (arith, m, q) in
      absurd (none (rw here at in')))
      (cases_lt t i);
}

-- ---- the net that is left

some_in : {X : Type 0} (xs : List X) (i : ℕ) (P : X → Type 0) → IsSomeAnd (slice_get xs i) P → i < length xs
some_in [] i P h = absurd h
some_in (x ∷ xs) zero P h = omega arith
some_in (x ∷ xs) (suc i) P h = let more = some_in xs i P h in omega (arith, more)

later_left_date : (now : ℕ) (o : Option ℕ) → as_date (left_date now o) ≡ later_of (At (pos now)) (as_date o)
later_left_date now None = refl
later_left_date now (Some d) = ap At (omega (arith, ints, clamps))

dates_told : (net : NetLists) (run : List Fired) (now : ℕ) (rest : NetLists) (t : ℕ) → AreListsLeft net run now (length net.transitions) rest.inputs → t < length net.transitions → IsInput net t
    → AreInputDates rest t (left_dates net run now t)
dates_told net run now rest t lists l in' = record {
  by_list = λ i d m e. rw e at (lists.each i d m);
  no_list = λ none k.
      let a = lists.every t l in' in
      absurd (none a.0 a.1 a.2 (ap (λ x. x.transition.index) a.3 ∙ a.4));
}

pub is_net_after : (net : NetLists) (run : List Fired) (now : ℕ) (rest : NetLists) → IsNet rest → rest.transitions ≡ net.transitions
    → rest.places ≡ map (place_after run now) net.places → AreListsLeft net run now (length net.transitions) rest.inputs → IsNetAfter net run now rest
is_net_after net run now rest ok transitions places lists = record {
  transitions = transitions;
  places = places;
  inputs = λ t k o in'.
      let l : t < length net.transitions = some_in net.transitions t _ in' in
      let told = (IsInputDate-input_date rest t k ok o).each (left_dates net run now t) (dates_told net run now rest t lists l in') in
      ap as_date (sym told) ∙ later_left_date now (input_date net t (count_in run t + k));
}
