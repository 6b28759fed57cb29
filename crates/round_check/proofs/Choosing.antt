-- Choices as a list: where the choice for a member stands, and when they are one for each.
use Rattle.std.proofs.Common.{ℕ, zero, suc, ◌+◌, ◌-◌, ◌<◌, ◌≤◌, ◌≡◌, ◌≢◌, List, [], ◌∷◌, Some, None, true, false, eqb, length, get_or, refl, sym, ap, subst, ◌∙◌, arith, ⊎_elim}
use Rattle.std.specs.Prelude.{pos, AllPairs, Contains}
use Rattle.std.proofs.lemmas.Bool.{cases_lt, eq-eqb, ne_eqb}
use Rattle.std.proofs.lemmas.List.{get_or-map, get_or_default, length-map}
use Rattle.teg_net.specs.declared.rounds.Choice.{Choice}
use Rattle.teg_net.specs.Parts.{IsMember, ListsMembers}
use Rattle.policy_rounds.specs.PolicyRounds.{choice_of_member, chosen_for}
use Rattle.policy_rounds.specs.PolicyLists.{ListsChoices}
use Rattle.policy_rounds.proofs.ListedChoices.{only_members, own_choice}

-- what stands past the end of a list of choices
abbrev pub none_chosen : Choice
none_chosen = record { transition = record { index = 0 }; place = record { index = 0 }; value = pos 0 }

-- the first choice for a transition is the one that is found
pub choice_found : (cs : List Choice) (t i : ℕ) (d : Choice) → i < length cs
    → ((k : ℕ) → k < i → (get_or cs k d).transition.index ≢ t) → (get_or cs i d).transition.index ≡ t → choice_of_member cs t ≡ Some (get_or cs i d)
choice_found [] t i d l h e = absurd (omega arith)
choice_found (c ∷ cs) t zero d l h e = let b : eqb c.transition.index t ≡ true = eq-eqb c.transition.index t e in rw b refl
choice_found (c ∷ cs) t (suc i) d l h e =
    let b : eqb c.transition.index t ≡ false = ne_eqb c.transition.index t (h 0 (omega arith)) in
    rw b (choice_found cs t i d (omega arith) (λ k m. h (suc k) (omega arith)) e)

pub choice_missing : (cs : List Choice) (t : ℕ) (d : Choice) → ((k : ℕ) → k < length cs → (get_or cs k d).transition.index ≢ t) → choice_of_member cs t ≡ None
choice_missing [] t d h = refl
choice_missing (c ∷ cs) t d h =
    let b : eqb c.transition.index t ≡ false = ne_eqb c.transition.index t (h 0 (omega arith)) in
    rw b (choice_missing cs t d (λ k m. h (suc k) (omega arith)))

-- where each choice is for a later transition than the one before, those before i stand in order, and the next comes later
pub order_more : (cs : List Choice) (i : ℕ) → 1 ≤ i → i < length cs
    → ((j k : ℕ) (d : Choice) → j < k → k < i → (get_or cs j d).transition.index < (get_or cs k d).transition.index)
    → (get_or cs (i - 1) none_chosen).transition.index < (get_or cs i none_chosen).transition.index → (j k : ℕ) (d : Choice) → j < k
    → k < i + 1 → (get_or cs j d).transition.index < (get_or cs k d).transition.index
order_more cs i some within h step j k d m n =
    ⊎_elim
    (λ (q : k < i). h j k d m q)
    (λ (q : i ≤ k).
    let is : i ≡ k = omega arith in
    let low : (get_or cs (i - 1) none_chosen).transition.index ≡ (get_or cs (i - 1) d).transition.index = ap (λ (c : Choice). c.transition.index) (get_or_default cs (i - 1) none_chosen d (omega arith)) in
    let high : (get_or cs i none_chosen).transition.index ≡ (get_or cs i d).transition.index = ap (λ (c : Choice). c.transition.index) (get_or_default cs i none_chosen d within) in
    let all : (get_or cs j d).transition.index < (get_or cs i d).transition.index =
    ⊎_elim
    (λ (r : j < i - 1). let e = h j (i - 1) d r (omega arith) in omega arith)
    (λ (r : i - 1 ≤ j). let e : i - 1 ≡ j = omega arith in subst (λ z. (get_or cs z d).transition.index < (get_or cs i d).transition.index) e (omega arith))
    (cases_lt j (i - 1)) in
    subst (λ z. (get_or cs j d).transition.index < (get_or cs z d).transition.index) is all)
    (cases_lt k i)

-- an element that the list has is read at its place
contains_read : (xs : List ℕ) (t : ℕ) (c : Contains xs t) → get_or xs c.0 0 ≡ t
contains_read [] t c = let l = c.1 in absurd (omega arith)
contains_read (x ∷ xs) t (zero, l, e) = e
contains_read (x ∷ xs) t (suc k, l, e) = contains_read xs t (k, (let m : k < length xs = omega arith in m), e)

module _ (parts : List ℕ) (part : ℕ) (cs : List Choice) (h : ListsMembers parts part (chosen_for cs)) where
  many : length (chosen_for cs) ≡ length cs
  many = length-map cs (λ (c : Choice). c.transition.index)

  pub in_order : AllPairs (λ c d. c.transition.index < d.transition.index) cs
  in_order i j d l m =
      let a = get_or-map (λ (c : Choice). c.transition.index) cs i d 0 (omega arith) in
      let b = get_or-map (λ (c : Choice). c.transition.index) cs j d 0 m in
      let up = h.ordered i j 0 l (omega (arith, many)) in
      omega arith

  -- each choice is the one for its transition
  pub own_at : (i : ℕ) (d : Choice) → i < length cs → choice_of_member cs (get_or cs i d).transition.index ≡ Some (get_or cs i d)
  own_at i d l = own_choice cs in_order i d l

  -- where the choice for a member stands
  pub record StandsAt (t : ℕ) : Type 0 where
    pub at : ℕ
    pub within : at < length cs
    pub of : (get_or cs at none_chosen).transition.index ≡ t
    pub found : choice_of_member cs t ≡ Some (get_or cs at none_chosen)

  pub stands_at : (t : ℕ) → IsMember parts part t → StandsAt t
  stands_at t m =
      let c = h.all t m in
      let k : ℕ = c.0 in
      let l : k < length cs = omega (arith, c.1, many) in
      let of : (get_or cs k none_chosen).transition.index ≡ t = sym (get_or-map (λ (c : Choice). c.transition.index) cs k none_chosen 0 l) ∙ contains_read (chosen_for cs) t c in
      record { at = k; within = l; of = of; found = subst (λ x. choice_of_member cs x ≡ Some (get_or cs k none_chosen)) of (own_at k none_chosen l) }

  pub lists_choices : ListsChoices parts part cs
  lists_choices = record {
    only = only_members parts part cs h;
    order = in_order;
    all = λ t m n. let s = stands_at t m in let f = s.found in cc;
  }
