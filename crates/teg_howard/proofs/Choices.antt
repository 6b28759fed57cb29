-- The loop of `round_of`: the choices of the members below i.
use Rattle.std.proofs.Common.{ℕ, ◌+◌, ◌<◌, ◌≤◌, ◌≡◌, ◌≢◌, List, [], ◌∷◌, ◌++◌, Option, Some, None, true, false, eqb, refl, subst, ◌∙◌, arith, ⊎_elim}
use Rattle.std.specs.Prelude.{ℤ, All, AllPairs}
use Rattle.std.proofs.lemmas.Bool.{cases_lt, cases_Bool, eq-eqb, ne_eqb}
use Rattle.std.proofs.lemmas.List.Quantifiers.{all_pairs_push}
use Rattle.std.proofs.lemmas.List.Elements.{All-push}
use Rattle.teg_net.specs.declared.rounds.Choice.{Choice}
use Rattle.teg_net.specs.Parts.{IsMember}
use Rattle.policy_rounds.specs.Policies.{Policy}
use Rattle.policy_rounds.specs.PolicyRounds.{choice_of_member}
use Rattle.teg_howard.specs.FoundCircuits.{value_held, value_or_zero}

pub push_some : (cs : List Choice) (c x : Choice) (t : ℕ) → choice_of_member cs t ≡ Some x → choice_of_member (cs ++ c ∷ []) t ≡ Some x
push_some [] c x t e = cc
push_some (d ∷ cs) c x t e =
    ⊎_elim
    (λ (b : eqb d.transition.index t ≡ true). rw b (rw b at e))
    (λ (b : eqb d.transition.index t ≡ false). rw b (push_some cs c x t (rw b at e)))
    (cases_Bool (eqb d.transition.index t))

pub push_none : (cs : List Choice) (c : Choice) (t : ℕ) → choice_of_member cs t ≡ None → choice_of_member (cs ++ c ∷ []) t ≡ choice_of_member (c ∷ []) t
push_none [] c t e = refl
push_none (d ∷ cs) c t e =
    ⊎_elim
    (λ (b : eqb d.transition.index t ≡ true). let f = rw b at e in cc)
    (λ (b : eqb d.transition.index t ≡ false). rw b (push_none cs c t (rw b at e)))
    (cases_Bool (eqb d.transition.index t))

abbrev pub choice_for : Policy → List (Option ℤ) → ℕ → Choice
choice_for π vs t = record { transition = record { index = t }; place = π t; value = value_or_zero (value_held vs t) }

pub record Listed (parts : List ℕ) (part : ℕ) (π : Policy) (vs : List (Option ℤ)) (cs : List Choice) (i : ℕ) : Type 0 where
  pub only : All (λ c. IsMember parts part c.transition.index) cs
  pub below : All (λ c. c.transition.index < i) cs
  pub order : AllPairs (λ c d. c.transition.index < d.transition.index) cs
  pub inside : (t : ℕ) → t < i → IsMember parts part t → choice_of_member cs t ≡ Some (choice_for π vs t)
  pub outside : (t : ℕ) → (t < i → IsMember parts part t → ⊥) → choice_of_member cs t ≡ None

pub listed_more : (parts : List ℕ) (part : ℕ) (π : Policy) (vs : List (Option ℤ)) (cs : List Choice) (i : ℕ)
    → Listed parts part π vs cs i → IsMember parts part i → Listed parts part π vs (cs ++ choice_for π vs i ∷ []) (i + 1)
listed_more parts part π vs cs i h m =
    let c : Choice = choice_for π vs i in
    let fresh : choice_of_member cs i ≡ None = h.outside i (λ l k. absurd (omega arith)) in
    record {
      only = All-push (λ d. IsMember parts part d.transition.index) cs c h.only m;
      below = All-push (λ d. d.transition.index < i + 1) cs c (λ k d l. let b = h.below k d l in omega arith) (let r : i < i + 1 = omega arith in r);
      order = all_pairs_push (λ d e. d.transition.index < e.transition.index) cs c h.order (λ k d l. h.below k d l);
      inside = λ t l k.
          ⊎_elim
          (λ (q : t < i). push_some cs c (choice_for π vs t) t (h.inside t q k))
          (λ (q : i ≤ t).
          let is : i ≡ t = omega arith in
          subst (λ x. choice_of_member (cs ++ c ∷ []) x ≡ Some (choice_for π vs x)) is (push_none cs c i fresh ∙ (let b : eqb i i ≡ true = eq-eqb i i refl in rw b refl)))
          (cases_lt t i);
      outside = λ t n.
          let ne : i ≢ t = λ (q : i ≡ t). n (omega arith) (subst (IsMember parts part) q m) in
          let b : eqb i t ≡ false = ne_eqb i t ne in
          push_none cs c t (h.outside t (λ l k. n (omega arith) k)) ∙ rw b refl;
    }

pub listed_skip : (parts : List ℕ) (part : ℕ) (π : Policy) (vs : List (Option ℤ)) (cs : List Choice) (i : ℕ)
    → Listed parts part π vs cs i → (IsMember parts part i → ⊥) → Listed parts part π vs cs (i + 1)
listed_skip parts part π vs cs i h out = record {
  only = h.only;
  below = λ k d l. let b = h.below k d l in omega arith;
  order = h.order;
  inside = λ t l k. ⊎_elim (λ (q : t < i). h.inside t q k) (λ (q : i ≤ t). let is : t ≡ i = omega arith in absurd (out (subst (IsMember parts part) is k))) (cases_lt t i);
  outside = λ t n. h.outside t (λ l k. n (omega arith) k);
}
