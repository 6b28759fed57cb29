-- Following a policy backwards.
use Rattle.std.proofs.Common.{ℕ, zero, suc, ◌+◌, ◌-◌, ◌<◌, ◌≤◌, ◌≡◌, ◌≢◌, List, [], ◌∷◌, length, get_or, refl, sym, ap, subst, ◌∙◌, arith, ⊎_elim}
use Rattle.std.specs.Prelude.{All}
use Rattle.std.proofs.lemmas.Bool.{cases_eq}
use Rattle.teg_net.specs.declared.entries.PlaceId.{PlaceId}
use Rattle.teg_net.specs.Nets.{NetLists}
use Rattle.teg_net.specs.Circuits.{IsPathBetween, from_of}
use Rattle.teg_net.specs.Parts.{IsMember, IsPlaceOfPart, to_of}
use Rattle.policy_rounds.specs.Policies.{Policy, IsPolicy, IsPolicyCircuit, step_back}
use Rattle.policy_rounds.specs.PolicyLists.{IsOnPolicy}
use Rattle.policy_rounds.proofs.Search.{FirstBelow, first_below}
use Rattle.policy_rounds.proofs.number_laws_proofs.Pigeons.{pigeons}

-- the places passed by following m places backwards from t, in the order of a path to t
abbrev pub trail : NetLists → Policy → ℕ → ℕ → List PlaceId
trail net π zero t = []
trail net π (suc m) t = π (step_back net π m t) ∷ trail net π m t

pub length-trail : (net : NetLists) (π : Policy) (m t : ℕ) → length (trail net π m t) ≡ m
length-trail net π zero t = refl
length-trail net π (suc m) t = omega (arith, length-trail net π m t)

pub back_add : (net : NetLists) (π : Policy) (m k t : ℕ) → step_back net π m (step_back net π k t) ≡ step_back net π (m + k) t
back_add net π zero k t = let e : 0 + k ≡ k = omega arith in rw e refl
back_add net π (suc m) k t =
    let e : suc m + k ≡ suc (m + k) = omega arith in
    rw e (ap (λ x. from_of net (π x)) (back_add net π m k t))

-- the place at i of the trail is the policy's place of the transition m - 1 - i places back
pub get_or-trail : (net : NetLists) (π : Policy) (m t i : ℕ) (d : PlaceId) → i < m → get_or (trail net π m t) i d ≡ π (step_back net π (m - suc i) t)
get_or-trail net π zero t i d l = absurd (omega arith)
get_or-trail net π (suc m) t zero d l = let e : suc m - 1 ≡ m = omega arith in rw e refl
get_or-trail net π (suc m) t (suc i) d l = let e : suc m - suc (suc i) ≡ m - suc i = omega arith in rw e (get_or-trail net π m t i d (omega arith))

module _ (net : NetLists) (parts : List ℕ) (part : ℕ) (π : Policy) (ok : IsPolicy net parts part π) where
  pub back_member : (m t : ℕ) → IsMember parts part t → IsMember parts part (step_back net π m t)
  back_member zero t h = h
  back_member (suc m) t h = (ok (step_back net π m t) (back_member m t h)).inside.from_member

  pub trail_leads : (m t : ℕ) → IsMember parts part t → IsPathBetween net (step_back net π m t) (trail net π m t) t
  trail_leads zero t h = refl
  trail_leads (suc m) t h =
      let e = ok (step_back net π m t) (back_member m t h) in
      (e.inside.in_range, refl, subst (λ x. IsPathBetween net x (trail net π m t) t) (sym e.ends) (trail_leads m t h))

  pub trail_inside : (m t : ℕ) → IsMember parts part t → All (IsPlaceOfPart net parts part) (trail net π m t)
  trail_inside m t h i d l =
      let in' : i < m = omega (arith, length-trail net π m t) in
      subst (IsPlaceOfPart net parts part) (sym (get_or-trail net π m t i d in')) (ok (step_back net π (m - suc i) t) (back_member (m - suc i) t h)).inside

  pub trail_own : (m t : ℕ) → IsMember parts part t → All (λ p. π (to_of net p) ≡ p) (trail net π m t)
  trail_own m t h i d l =
      let in' : i < m = omega (arith, length-trail net π m t) in
      let e = ok (step_back net π (m - suc i) t) (back_member (m - suc i) t h) in
      subst (λ p. π (to_of net p) ≡ p) (sym (get_or-trail net π m t i d in')) (ap π e.ends)

  -- where following backwards comes to t again for the first time, the trail is a circuit
  pub trail_circuit : (k t : ℕ) → IsMember parts part t → 0 < k → step_back net π k t ≡ t → ((j : ℕ) → 0 < j → j < k → step_back net π j t ≢ t) → IsPolicyCircuit net parts part π (trail net π k t)
  trail_circuit k t h some round first = record {
    circuit = record {
      not_empty = omega (arith, length-trail net π k t);
      closed = (t, subst (λ x. IsPathBetween net x (trail net π k t) t) round (trail_leads k t h));
      leaves_once = λ i j d l m.
          let long = length-trail net π k t in
          let jk : j < k = omega arith in
          let ik : i < k = omega arith in
          -- the place at i begins k - i places back
          let a : from_of net (get_or (trail net π k t) i d) ≡ step_back net π (suc (k - suc i)) t = ap (from_of net) (get_or-trail net π k t i d ik) in
          let b : from_of net (get_or (trail net π k t) j d) ≡ step_back net π (suc (k - suc j)) t = ap (from_of net) (get_or-trail net π k t j d jk) in
          let ia : suc (k - suc i) ≡ k - i = omega arith in
          let jb : suc (k - suc j) ≡ k - j = omega arith in
          λ e.
          -- i more places back from both: one has come to t after k, the other before
          let same : step_back net π (k - i) t ≡ step_back net π (k - j) t = sym (a ∙ ap (λ x. step_back net π x t) ia) ∙ (e ∙ (b ∙ ap (λ x. step_back net π x t) jb)) in
          let on : step_back net π (i + (k - i)) t ≡ step_back net π (i + (k - j)) t = sym (back_add net π i (k - i) t) ∙ (ap (step_back net π i) same ∙ back_add net π i (k - j) t) in
          let whole : i + (k - i) ≡ k = omega arith in
          first (i + (k - j)) (omega arith) (omega arith) (sym on ∙ (ap (λ x. step_back net π x t) whole ∙ round));
    };
    inside = trail_inside k t h;
    own = trail_own k t h;
  }

  -- a transition that comes again comes again for the first time
  pub first_return : (k t : ℕ) → 0 < k → step_back net π k t ≡ t → (m : ℕ) × (0 < m) × (m ≤ k) × (step_back net π m t ≡ t) × ((j : ℕ) → 0 < j → j < m → step_back net π j t ≢ t)
  first_return k t some e =
      ⊎_elim
      (λ (f : (m : ℕ) × FirstBelow (λ j. step_back net π (suc j) t ≡ t) k m).
      let b = f.1.below in
      (suc f.0, omega arith, omega arith, f.1.meets, λ j l n q. let is : j ≡ suc (j - 1) = omega arith in f.1.first (j - 1) (omega arith) (subst (λ x. step_back net π x t ≡ t) is q)))
      (λ (no : (j : ℕ) → j < k → step_back net π (suc j) t ≡ t → ⊥).
      let is : k ≡ suc (k - 1) = omega arith in
      absurd (no (k - 1) (omega arith) (subst (λ x. step_back net π x t ≡ t) is e)))
      (first_below (λ j. step_back net π (suc j) t ≡ t) (λ j. cases_eq (step_back net π (suc j) t) t) k)

  -- following backwards from a member leads to a circuit of the policy
  pub to_a_circuit : (t : ℕ) → IsMember parts part t → (m k : ℕ) × (0 < k)
      × (step_back net π k (step_back net π m t) ≡ step_back net π m t) × IsPolicyCircuit net parts part π (trail net π k (step_back net π m t))
  to_a_circuit t h =
      let p = pigeons (length parts) (λ i. step_back net π i t) (λ i l. (back_member i t h).in_range) in
      let i = p.0 in
      let j = p.1 in
      let up = p.2 in
      let s = step_back net π i t in
      let e : (j - i) + i ≡ j = omega arith in
      let again : step_back net π (j - i) s ≡ s = back_add net π (j - i) i t ∙ (ap (λ x. step_back net π x t) e ∙ sym p.4) in
      let f = first_return (j - i) s (omega arith) again in
      (i, f.0, f.1, f.3, trail_circuit f.0 s (back_member i t h) f.1 f.3 f.4)

-- following the policy backwards stays on it
pub on_back : (net : NetLists) (π : Policy) (t : ℕ) → IsOnPolicy net π t → IsOnPolicy net π (from_of net (π t))
on_back net π t h = record { parts = h.parts; part = h.part; count = h.count; member = (h.kept t h.member).inside.from_member; kept = h.kept }
