-- Where the input list of each transition stands, as the first i lists give it.
use Rattle.std.proofs.Common.{ℕ, suc, ◌+◌, ◌<◌, ◌≡◌, ◌≢◌, List, [], ◌∷◌, ◌++◌, Bool, true, false, eqb, Option, Some, None, length, take, get_or, set, refl, sym, ◌∙◌, arith, ⊎_elim}
use Rattle.std.specs.Prelude.{find, ◌==◌, slice_get, IsSomeAnd}
use Rattle.std.proofs.lemmas.Bool.{cases_eq, cases_Bool}
use Rattle.std.proofs.lemmas.Bool.Decides.{nat_tests}
use Rattle.std.proofs.lemmas.List.{length-set, length-take-le, get_or-set_same, get_or-set_other, get_or-take, take_more}
use Rattle.std.proofs.lemmas.Option.{slice_get_within, slice_get-get_or}
use Rattle.teg_net.specs.declared.entries.InputList.{InputList}
use Rattle.teg_net.specs.declared.entries.Role.TheVariants.{Input}
use Rattle.teg_net.specs.declared.entries.Transition.{Transition}
use Rattle.teg_net.specs.Nets.{NetLists, IsNet, IsInput}
use Rattle.teg_replay.specs.Games.{input_list_at}

-- what stands past the end of the lists
abbrev pub no_list : InputList
no_list = record { transition = record { index = 0 }; dates = []; again = None }

found_within : (xs : List Transition) (t : ℕ) (o : Option Transition) → slice_get xs t ≡ o → IsSomeAnd o (λ x. x.role ≡ Input) → t < length xs
found_within xs t None e h = absurd h
found_within xs t (Some x) e h = slice_get_within xs t x e

-- an input is a transition of the net
pub input_within : (net : NetLists) (t : ℕ) → IsInput net t → t < length net.transitions
input_within net t h = found_within net.transitions t (slice_get net.transitions t) refl h

find_none : (p : InputList → Bool) (xs : List InputList) → ((k : ℕ) → k < length xs → p (get_or xs k no_list) ≡ false) → find p xs ≡ None
find_none p [] h = refl
find_none p (x ∷ xs) h =
    let no : p x ≡ false = h 0 (omega arith) in
    rw no (find_none p xs (λ k l. h (suc k) (omega (arith, l))))

find_own : (p : InputList → Bool) (xs : List InputList) (x : InputList) → find p xs ≡ None → p x ≡ true → find p (xs ++ x ∷ []) ≡ Some x
find_own p [] x n e = rw e refl
find_own p (y ∷ ys) x n e =
    ⊎_elim
    (λ (q : p y ≡ true). let bad : Some y ≡ None = rw q at n in absurd (cc))
    (λ (q : p y ≡ false). rw q (find_own p ys x (rw q at n) e))
    (cases_Bool (p y))

find_other : (p : InputList → Bool) (xs : List InputList) (x : InputList) → p x ≡ false → find p (xs ++ x ∷ []) ≡ find p xs
find_other p [] x e = rw e refl
find_other p (y ∷ ys) x e =
    ⊎_elim
    (λ (q : p y ≡ true). rw q refl)
    (λ (q : p y ≡ false). rw q (find_other p ys x e))
    (cases_Bool (p y))

-- no list before this one is of its transition
none_before : (net : NetLists) (i t : ℕ) → IsNet net → i < length net.inputs → (get_or net.inputs i no_list).transition.index ≡ t → find (λ l. l.transition.index == t) (take i net.inputs) ≡ None
none_before net i t ok in' e =
    find_none (λ l. l.transition.index == t) (take i net.inputs) (λ k l.
    let low : k < i = omega (arith, l, length-take-le i net.inputs (omega (arith, in'))) in
    let other : (get_or net.inputs k no_list).transition.index ≢ (get_or net.inputs i no_list).transition.index = ok.one_list k i no_list low in' in
    let test : eqb (get_or net.inputs k no_list).transition.index t ≡ false = grind (arith, nat_tests) in
    rw (get_or-take i net.inputs k no_list low) test)

pub record PositionsUpTo (net : NetLists) (positions : List (Option ℕ)) (i : ℕ) : Type 0 where
  pub width : length positions ≡ length net.transitions
  pub each : (t : ℕ) → t < length net.transitions → input_list_at net.inputs (get_or positions t None) ≡ find (λ l. l.transition.index == t) (take i net.inputs)

pub positions_more : (net : NetLists) (positions : List (Option ℕ)) (i to : ℕ) → IsNet net → PositionsUpTo net positions i
    → i < length net.inputs → (get_or net.inputs i no_list).transition.index ≡ to → to < length net.transitions
    → PositionsUpTo net (set positions to (Some i)) (i + 1)
positions_more net positions i to ok h in' e to_in =
    let own : InputList = get_or net.inputs i no_list in
    record {
      width = length-set positions to (Some i) ∙ h.width;
      each = λ t l.
          ⊎_elim
          (λ (q : t ≡ to).
          let here : get_or (set positions to (Some i)) t None ≡ Some i = rw q (get_or-set_same positions to (Some i) None (rw h.width to_in)) in
          let test : eqb own.transition.index t ≡ true = grind (arith, nat_tests) in
          let none = none_before net i t ok in' (e ∙ sym q) in
          rw (here, take_more net.inputs i no_list in') (slice_get-get_or net.inputs i no_list in' ∙ sym (find_own (λ x. x.transition.index == t) (take i net.inputs) own none test)))
          (λ (q : t ≢ to).
          let test : eqb own.transition.index t ≡ false = grind (arith, nat_tests) in
          rw (get_or-set_other positions to t (Some i) None q, take_more net.inputs i no_list in')
          (h.each t l ∙ sym (find_other (λ x. x.transition.index == t) (take i net.inputs) own test)))
          (cases_eq t to);
    }
