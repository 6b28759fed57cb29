-- Choices as a list: one for each member.
use Rattle.std.proofs.Common.{ℕ, zero, suc, ◌<◌, ◌≤◌, ◌≡◌, ◌≢◌, List, [], ◌∷◌, Some, None, true, false, eqb, length, get_or, refl, subst, arith, ⊎_elim}
use Rattle.std.specs.Prelude.{pos, All, AllPairs, Contains}
use Rattle.std.proofs.lemmas.Bool.{cases_Bool, eqb-true, eq-eqb, ne_eqb}
use Rattle.std.proofs.lemmas.List.{get_or-map, length-map}
use Rattle.std.proofs.lemmas.List.Elements.{All-map, All-tail}
use Rattle.teg_net.specs.declared.entries.PlaceId.{PlaceId}
use Rattle.teg_net.specs.declared.rounds.Choice.{Choice}
use Rattle.teg_net.specs.Nets.{NetLists}
use Rattle.teg_net.specs.Circuits.{from_of, BeginsLowest}
use Rattle.teg_net.specs.Parts.{IsMember, ListsMembers}
use Rattle.teg_net.specs.PartAnswers.{first_transition_of}
use Rattle.policy_rounds.specs.PolicyRounds.{choice_of_member, chosen_for}
use Rattle.policy_rounds.specs.PolicyLists.{ListsChoices}

-- an element that the list has is read at its place
pub Contains_read : (xs : List ℕ) (t : ℕ) (c : Contains xs t) → get_or xs c.0 0 ≡ t
Contains_read [] t c = let l = c.1 in absurd (omega arith)
Contains_read (x ∷ xs) t (zero, l, e) = e
Contains_read (x ∷ xs) t (suc k, l, e) = Contains_read xs t (k, (let m : k < length xs = omega arith in m), e)

-- what stands past the end of a list of choices
abbrev pub no_choice_at : Choice
no_choice_at = record { transition = record { index = 0 }; place = record { index = 0 }; value = pos 0 }

-- a transition that has a choice is one of the list
chosen_contains : (cs : List Choice) (t : ℕ) → choice_of_member cs t ≢ None → Contains (chosen_for cs) t
chosen_contains [] t n = absurd (n refl)
chosen_contains (c ∷ cs) t n =
    ⊎_elim
    (λ (b : eqb c.transition.index t ≡ true). (0, omega arith, eqb-true c.transition.index t b))
    (λ (b : eqb c.transition.index t ≡ false). let rest = chosen_contains cs t (rw b at n) in (suc rest.0, omega (arith, rest.1), rest.2))
    (cases_Bool (eqb c.transition.index t))

pub lists_members : (parts : List ℕ) (part : ℕ) (cs : List Choice) → ListsChoices parts part cs → ListsMembers parts part (chosen_for cs)
lists_members parts part cs h = record {
  ordered = λ i j d l m.
      let long : length (chosen_for cs) ≡ length cs = length-map cs (λ c. c.transition.index) in
      let a = get_or-map (λ (c : Choice). c.transition.index) cs i no_choice_at d (omega arith) in
      let b = get_or-map (λ (c : Choice). c.transition.index) cs j no_choice_at d (omega arith) in
      rw (a, b) (h.order i j no_choice_at l (omega arith));
  only = All-map (IsMember parts part) (λ c. c.transition.index) cs h.only;
  all = λ t m. chosen_contains cs t (h.all t m);
}

-- each choice is for a member
pub only_members : (parts : List ℕ) (part : ℕ) (cs : List Choice) → ListsMembers parts part (chosen_for cs) → All (λ c. IsMember parts part c.transition.index) cs
only_members parts part cs h i d l =
    let long : length (chosen_for cs) ≡ length cs = length-map cs (λ c. c.transition.index) in
    subst (IsMember parts part) (get_or-map (λ (c : Choice). c.transition.index) cs i d 0 l) (h.only i 0 (omega arith))

-- a choice is the one for its transition
pub own_choice : (cs : List Choice) → AllPairs (λ c d. c.transition.index < d.transition.index) cs → (i : ℕ) (d : Choice)
    → i < length cs → choice_of_member cs (get_or cs i d).transition.index ≡ Some (get_or cs i d)
own_choice [] h i d l = absurd (omega arith)
own_choice (c ∷ cs) h zero d l = let b : eqb c.transition.index c.transition.index ≡ true = eq-eqb c.transition.index c.transition.index refl in rw b refl
own_choice (c ∷ cs) h (suc i) d l =
    let apart : c.transition.index < (get_or cs i d).transition.index = h 0 (suc i) d (omega arith) l in
    let b : eqb c.transition.index (get_or cs i d).transition.index ≡ false = ne_eqb c.transition.index (get_or cs i d).transition.index (omega arith) in
    rw b (own_choice cs (λ j k e m n. h (suc j) (suc k) e (omega arith) (omega arith)) i d (omega arith))

pub begins_lowest : (net : NetLists) (ps : List PlaceId) → All (λ p. first_transition_of net ps ≤ from_of net p) ps → BeginsLowest net ps
begins_lowest net [] h = tt
begins_lowest net (p ∷ ps) h = All-tail (λ q. from_of net p ≤ from_of net q) p ps h
