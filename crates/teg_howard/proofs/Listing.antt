-- Choices as a list: one for each member, and what the last round's answer tells of them.
use Rattle.std.proofs.Common.{ℕ, zero, suc, ◌*◌, ◌<◌, ◌≤◌, ◌≡◌, ◌≢◌, List, [], ◌∷◌, length, get_or, refl, sym, ap, subst, ◌∙◌, arith, inl, inr, ⊎_elim}
use Rattle.std.specs.Prelude.{ℤ, ◌≤ℤ◌, ◌<ℤ◌, All, AllPairs, Contains, map}
use Rattle.std.proofs.lemmas.Int.{ints}
use Rattle.std.proofs.lemmas.Bool.{cases_lt}
use Rattle.std.proofs.lemmas.List.{get_or-map, length-map, ext_get_or}
use Rattle.std.proofs.lemmas.List.Elements.{All-map}
use Rattle.teg_net.specs.declared.rounds.Choice.{Choice}
use Rattle.teg_net.specs.declared.rounds.Round.{Round}
use Rattle.teg_net.specs.Parts.{IsMember, ListsMembers}
use Rattle.teg_net.specs.PartAnswers.{transitions_of}
use Rattle.teg_net.specs.Limits.{most_transitions}
use Rattle.policy_rounds.specs.PolicyRounds.{chosen, chosen_for, chosen_place, potential, value_in}
use Rattle.policy_rounds.specs.RunAnswers.{potential_of}
use Rattle.teg_howard.specs.PolicyRuns.{sum_below, PairRises}
use Rattle.policy_rounds.specs.PolicyLists.{ListsChoices}
use Rattle.teg_howard.specs.RoundStates.{RisesEach, Rises}
use Rattle.policy_rounds.proofs.ListedChoices.{Contains_read, no_choice_at, own_choice}

-- the potentials tell of the transitions that the choices are for
pub same_transitions : (cs : List Choice) → transitions_of (map potential_of cs) ≡ chosen_for cs
same_transitions [] = refl
same_transitions (c ∷ cs) = ap (λ ts. c.transition.index ∷ ts) (same_transitions cs)

-- ---- rounds with one place and one potential of each transition have the same choices
after_first : (x : ℕ) (xs : List ℕ) → AllPairs (λ t u. t < u) (x ∷ xs) → (t : ℕ) → Contains xs t → x < t
after_first x xs h t c = let m = h 0 (suc c.0) 0 (omega arith) (let l = c.1 in omega arith) in let at = Contains_read xs t c in omega arith

in_rest : (x : ℕ) (xs : List ℕ) (t : ℕ) → x < t → Contains (x ∷ xs) t → Contains xs t
in_rest x xs t l (zero, m, e) = let same : x ≡ t = e in absurd (omega arith)
in_rest x xs t l (suc k, m, e) = (k, (let n : k < length xs = omega arith in n), e)

first_or_rest : (x : ℕ) (xs : List ℕ) → AllPairs (λ t u. t < u) (x ∷ xs) → (t : ℕ) → Contains (x ∷ xs) t → x ≤ t
first_or_rest x xs h t (zero, m, e) = let same : x ≡ t = e in omega arith
first_or_rest x xs h t (suc k, m, e) = let l = after_first x xs h t (k, (let n : k < length xs = omega arith in n), e) in omega arith

rest_rises : (x : ℕ) (xs : List ℕ) → AllPairs (λ t u. t < u) (x ∷ xs) → AllPairs (λ t u. t < u) xs
rest_rises x xs h i j d l m = h (suc i) (suc j) d (omega arith) (omega arith)

-- rising lists of the same numbers are equal
same_rising : (xs ys : List ℕ) → AllPairs (λ t u. t < u) xs → AllPairs (λ t u. t < u) ys → ((t : ℕ) → Contains xs t → Contains ys t) → ((t : ℕ) → Contains ys t → Contains xs t) → xs ≡ ys
same_rising [] [] h k to from = refl
same_rising [] (y ∷ ys) h k to from = let c = from y (0, omega arith, refl) in let l = c.1 in absurd (omega arith)
same_rising (x ∷ xs) [] h k to from = let c = to x (0, omega arith, refl) in let l = c.1 in absurd (omega arith)
same_rising (x ∷ xs) (y ∷ ys) h k to from =
    let a = first_or_rest y ys k x (to x (0, omega arith, refl)) in
    let b = first_or_rest x xs h y (from y (0, omega arith, refl)) in
    let same : x ≡ y = omega arith in
    let rest = same_rising xs ys (rest_rises x xs h) (rest_rises y ys k)
    (λ t c. let l = after_first x xs h t c in let later : y < t = omega arith in in_rest y ys t later (to t (suc c.0, (let m = c.1 in omega arith), c.2)))
    (λ t c. let l = after_first y ys k t c in let later : x < t = omega arith in in_rest x xs t later (from t (suc c.0, (let m = c.1 in omega arith), c.2))) in
    ap (λ z. z ∷ xs) same ∙ ap (λ zs. y ∷ zs) rest

-- the choice that a round gives to a transition
given_by : Round → ℕ → Choice
given_by r t = record { transition = record { index = t }; place = chosen r t; value = potential r t }

-- the list is what the round gives, member by member
choices_by_member : (parts : List ℕ) (part : ℕ) (r : Round) → ListsMembers parts part (chosen_for r.choices.items) → r.choices.items ≡ map (given_by r) (chosen_for r.choices.items)
unfolding given_by
choices_by_member parts part r h =
    let cs = r.choices.items in
    let long = length-map cs (λ (c : Choice). c.transition.index) in
    let order = λ (i j : ℕ) (d : Choice) (l : i < j) (m : j < length cs).
    let a = get_or-map (λ (c : Choice). c.transition.index) cs i d 0 (omega arith) in
    let b = get_or-map (λ (c : Choice). c.transition.index) cs j d 0 m in
    let up = h.ordered i j 0 l (omega arith) in
    let e : (get_or cs i d).transition.index < (get_or cs j d).transition.index = omega arith in e in
    ext_get_or no_choice_at cs _ (sym (length-map (chosen_for cs) (given_by r) ∙ long))
    (λ i l.
    let c : Choice = get_or cs i no_choice_at in
    let own = own_choice cs order i no_choice_at l in
    let place : chosen r c.transition.index ≡ c.place = ap chosen_place own in
    let value : potential r c.transition.index ≡ c.value = ap value_in own in
    let given : c ≡ given_by r c.transition.index = λ j. record { transition = c.transition; place = sym place j; value = sym value j } in
    given
    ∙ (ap (given_by r) (sym (get_or-map (λ (e : Choice). e.transition.index) cs i no_choice_at 0 l))
    ∙ sym (get_or-map (given_by r) (chosen_for cs) i 0 no_choice_at (omega (arith, l, long)))))

pub same_choices : (parts : List ℕ) (part : ℕ) (r q : Round) → ListsMembers parts part (chosen_for r.choices.items)
    → ListsMembers parts part (chosen_for q.choices.items) → chosen r ≡ chosen q → potential r ≡ potential q
    → r.choices.items ≡ q.choices.items
unfolding given_by
same_choices parts part r q h k places values =
    let member = λ (ts : List ℕ) (w : ListsMembers parts part ts) (t : ℕ) (c : Contains ts t).
    let m : IsMember parts part t = subst (IsMember parts part) (Contains_read ts t c) (w.only c.0 0 c.1) in m in
    let ts : List ℕ = chosen_for r.choices.items in
    let us : List ℕ = chosen_for q.choices.items in
    let members : ts ≡ us = same_rising ts us h.ordered k.ordered (λ t c. k.all t (member ts h t c)) (λ t c. h.all t (member us k t c)) in
    let functions : given_by r ≡ given_by q = λ i t. record { transition = record { index = t }; place = places i t; value = values i t } in
    choices_by_member parts part r h
    ∙ ((λ i. map (functions i) (members i))
    ∙ sym (choices_by_member parts part q k))

-- what holds of each member's potential holds of each that the answer tells
pub told_potentials : (P : ℕ → ℤ → Type 0) (r : Round) (parts : List ℕ) (part : ℕ) → ListsChoices parts part r.choices.items
    → ((t : ℕ) → IsMember parts part t → P t (potential r t)) → All (λ v. P v.transition.index v.value) (map potential_of r.choices.items)
told_potentials P r parts part h each =
    All-map (λ v. P v.transition.index v.value) potential_of r.choices.items
    (λ i d l.
    let c : Choice = get_or r.choices.items i d in
    let value : potential r c.transition.index ≡ c.value = ap value_in (own_choice r.choices.items h.order i d l) in
    subst (P c.transition.index) value (each c.transition.index (h.only i d l)))

-- ---- the sum of the potentials
sum_no_lower : (v w : ℕ → ℤ) → ((t : ℕ) → v t ≤ℤ w t) → (n : ℕ) → sum_below n v ≤ℤ sum_below n w
sum_no_lower v w h zero = omega (arith, ints)
sum_no_lower v w h (suc n) = let here = h n in let rest = sum_no_lower v w h n in omega (arith, ints)

sum_higher : (v w : ℕ → ℤ) → ((t : ℕ) → v t ≤ℤ w t) → (k : ℕ) → v k <ℤ w k → (n : ℕ) → k < n → sum_below n v <ℤ sum_below n w
sum_higher v w h k up zero l = absurd (omega arith)
sum_higher v w h k up (suc n) l =
    ⊎_elim
    (λ (q : k < n). let here = h n in let rest = sum_higher v w h k up n q in omega (arith, ints))
    (λ (q : n ≤ k).
    let is : k ≡ n = omega arith in
    let here : v n <ℤ w n = subst (λ x. v x <ℤ w x) is up in
    let rest = sum_no_lower v w h n in
    omega (arith, ints))
    (cases_lt k n)

sum_rises : (n : ℕ) → n ≡ most_transitions → (r s : Round) → RisesEach r s → sum_below n (potential r) <ℤ sum_below n (potential s)
sum_rises n e r s h = sum_higher (potential r) (potential s) h.no_lower h.higher.0 h.higher.2 n (let l = h.higher.1 in omega arith)

pub pair_rises : (r s : Round) → Rises r s → PairRises r s
pair_rises r s h =
    ⊎_elim
    (λ (l : r.ratio.time * s.ratio.tokens < s.ratio.time * r.ratio.tokens). inl l)
    (λ (e : RisesEach r s). inr (record { same = e.same; higher = sum_rises most_transitions refl r s e }))
    h
