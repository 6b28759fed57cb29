-- The input lists of a net, and the dates that they give.
use Rattle.std.proofs.Common.{ℕ, zero, suc, ◌+◌, ◌-◌, ◌*◌, ◌<◌, ◌≤◌, ◌≡◌, ◌≢◌, ◌⊎◌, List, [], ◌∷◌, Option, Some, None, length, get_or, refl, sym, ap, subst, ◌∙◌, arith, inl, inr, ⊎_elim}
use Rattle.std.specs.Prelude.{All, Contains, unwrap_or, ⊤}
use Rattle.std.proofs.lemmas.Bool.{cases_lt, cases_eq}
use Rattle.settled_laws.specs.teg_net.declared.entries.Again.{Again}
use Rattle.settled_laws.specs.teg_net.declared.entries.InputList.{InputList}
use Rattle.settled_laws.specs.teg_net.Nets.{NetLists, IsNet, IsInput, IsInputOf, HasListsOfInputs, HasListsByRule, ListGoesOn, EndsOrGoesOn}
use Rattle.settled_laws.specs.teg_net.Inputs.{moved_by, GoOnBy, IsInputDates, input_date}
use Rattle.settled_laws.proofs.teg_net_proofs.InputDates.{dates_by_lists}
use Rattle.settled_laws.proofs.teg_net_proofs.NetRules.{lists_by_rule, lists_of_inputs}

-- the rule that one of the lists keeps, its input, and the dates that it gives
pub rule_in : (net : NetLists) (l : InputList) → HasListsByRule net → Contains net.inputs l → EndsOrGoesOn l.dates l.again
rule_in net l rules has = subst (λ (z : InputList). EndsOrGoesOn z.dates z.again) has.2 (rules has.0 l has.1)

pub input_of : (net : NetLists) (l : InputList) → HasListsOfInputs net → Contains net.inputs l → IsInput net l.transition.index
input_of net l inputs has = subst (λ (z : InputList). IsInput net z.transition.index) has.2 (inputs.is_input has.0 l has.1)

pub dates_by_list : (net : NetLists) (l : InputList) → HasListsOfInputs net → HasListsByRule net → Contains net.inputs l → IsInputDates l (input_date net l.transition.index)
dates_by_list net l inputs rules has =
    let at : get_or net.inputs has.0 l ≡ l = has.2 in
    (rw at at ((dates_by_lists net l.transition.index inputs.one_list rules).by_list has.0 l has.1)) refl

-- what the net says of one of its lists, and the dates that the list gives
pub dates_of_list : (net : NetLists) (l : InputList) → IsNet net → Contains net.inputs l → IsInputOf net l × IsInputDates l (input_date net l.transition.index)
dates_of_list net l ok has = (subst (IsInputOf net) has.2 (ok.each_input has.0 l has.1), dates_by_list net l (lists_of_inputs net ok) (lists_by_rule net ok) has)

-- past its end it goes on by its rule
pub goes_past : (long : ℕ) (o : Option Again) (again : Again) (u : ℕ → Option ℕ) → o ≡ Some again → GoOnBy long o u → (k : ℕ) → long < k → u k ≡ moved_by again.gap (u (k - again.every))
goes_past long o again u e h = subst (λ z. GoOnBy long z u) e h

pub rule_of : (dates : List ℕ) (o : Option Again) (again : Again) → o ≡ Some again → EndsOrGoesOn dates o → ListGoesOn dates again
rule_of dates o again e h = subst (λ z. EndsOrGoesOn dates z) e h

-- it grows by its gap in each round
pub list_grows : (l : InputList) (again : Again) (u : ℕ → Option ℕ) → IsInputDates l u → l.again ≡ Some again → ListGoesOn l.dates again
    → (i : ℕ) → (v : ℕ) × (u (length l.dates + i * again.every) ≡ Some v) × (i * again.gap ≤ v)
list_grows l again u h e g zero =
    let is : length l.dates + 0 * again.every ≡ length l.dates = grind arith in
    let none : 0 * again.gap ≡ 0 = grind arith in
    (get_or l.dates (length l.dates - 1) 0, ap u is ∙ h.listed (length l.dates) (omega (arith, g.some, g.enough)) (omega arith), omega arith)
list_grows l again u h e g (suc i) =
    let before = list_grows l again u h e g i in
    let long : ℕ = length l.dates in
    let k : ℕ = long + suc i * again.every in
    let wide : suc i * again.every ≡ i * again.every + again.every = grind arith in
    let far : suc i * again.gap ≡ i * again.gap + again.gap = grind arith in
    let back : k - again.every ≡ long + i * again.every = omega arith in
    let moved = goes_past long l.again again u e h.past k (omega (arith, g.some)) in
    (before.0 + again.gap, moved ∙ (ap (λ z. moved_by again.gap (u z)) back ∙ ap (moved_by again.gap) before.1), omega (arith, before.2))

pub again_or_not : (o : Option Again) → (o ≡ None) ⊎ ((g : Again) × (o ≡ Some g))
again_or_not None = inl refl
again_or_not (Some g) = inr (g, refl)

pub ends_past : (long : ℕ) (o : Option Again) (u : ℕ → Option ℕ) → o ≡ None → GoOnBy long o u → (k : ℕ) → long < k → u k ≡ None
ends_past long o u e h = subst (λ z. GoOnBy long z u) e h

none_else : (t : ℕ) (l : InputList) (xs : List InputList) → l.transition.index ≢ t → All (λ x. x.transition.index ≢ t) xs → All (λ x. x.transition.index ≢ t) (l ∷ xs)
none_else t l xs e h zero d m = e
none_else t l xs e h (suc i) d m = h i d (omega arith)

-- a list of this transition, or none
pub list_or_none : (xs : List InputList) (t : ℕ) → ((l : InputList) × Contains xs l × (l.transition.index ≡ t)) ⊎ All (λ x. x.transition.index ≢ t) xs
list_or_none [] t = inr (λ i d l. absurd (omega arith))
list_or_none (l ∷ xs) t =
    ⊎_elim
    (λ (e : l.transition.index ≡ t). inl (l, (0, omega arith, refl), e))
    (λ (e : l.transition.index ≢ t).
    ⊎_elim
    (λ (h : (m : InputList) × Contains xs m × (m.transition.index ≡ t)). inl (h.0, (suc h.1.0, omega (arith, h.1.1), h.1.2), h.2))
    (λ (h : All (λ x. x.transition.index ≢ t) xs). inr (none_else t l xs e h))
    (list_or_none xs t))
    (cases_eq l.transition.index t)

pub le_or_lt : (s long : ℕ) → (s ≤ long) ⊎ (long < s)
le_or_lt s long = ⊎_elim (λ (l : long < s). inr l) (λ (l : s ≤ long). inl l) (cases_lt long s)

pub some_is : (a b : ℕ) → Some a ≡ Some b → a ≡ b
some_is a b h = ap (λ o. unwrap_or o 0) h

abbrev pub IsSomeDate : Option ℕ → Type 0
IsSomeDate None = ⊥
IsSomeDate (Some d) = ⊤

pub moved_from : (gap v : ℕ) (o : Option ℕ) → moved_by gap o ≡ Some v → (w : ℕ) × (o ≡ Some w) × (v ≡ w + gap)
moved_from gap v None e = absurd (subst IsSomeDate (sym e) tt)
moved_from gap v (Some w) e = (w, refl, sym (some_is (w + gap) v e))
