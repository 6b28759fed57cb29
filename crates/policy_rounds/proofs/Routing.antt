-- Routing to a circuit: afterwards every member leads back to it.
use Rattle.std.proofs.Common.{ℕ, zero, suc, ◌+◌, ◌-◌, ◌<◌, ◌≤◌, ◌≡◌, List, length, get_or, take, refl, sym, ap, subst, ◌∙◌, arith, ⊎_elim}
use Rattle.std.specs.Prelude.{Any}
use Rattle.std.proofs.lemmas.List.{get_or_default, get_or-take, length-take-le}
use Rattle.teg_net.specs.declared.entries.PlaceId.{PlaceId}
use Rattle.teg_net.specs.Nets.{NetLists}
use Rattle.teg_net.specs.Circuits.{from_of}
use Rattle.teg_net.specs.Parts.{IsMember, to_of}
use Rattle.policy_rounds.specs.Policies.{Policy, IsPolicy, Enters, IsPolicyCircuit, step_back, LeadsBack, first_id, Joins, IsRouting}
use Rattle.teg_net.specs.PartAnswers.{first_transition_of}
use Rattle.policy_rounds.proofs.Back.{back_add, back_member}
use Rattle.policy_rounds.proofs.Turns.{on_circuit}

module _ (net : NetLists) (parts : List ℕ) (part : ℕ) (π : Policy) (ok : IsPolicy net parts part π) (s : ℕ) (joins : List PlaceId)
    (routed : Policy) (r : IsRouting net parts part π s joins routed) where
  -- what led back leads back the same way
  same_back : (m t : ℕ) → IsMember parts part t → step_back net π m t ≡ s → (j : ℕ) → j ≤ m → step_back net routed j t ≡ step_back net π j t
  same_back m t h e zero l = refl
  same_back m t h e (suc j) l =
      let rest = same_back m t h e j (omega arith) in
      let y : ℕ = step_back net π j t in
      let whole : (m - j) + j ≡ m = omega arith in
      let home : LeadsBack net π y s = (m - j, back_add net π (m - j) j t ∙ (ap (λ x. step_back net π x t) whole ∙ e)) in
      ap (λ x. from_of net (routed x)) rest ∙ ap (from_of net) (r.kept y (back_member net parts part π ok j t h) home)

  pub kept_home : (t : ℕ) → IsMember parts part t → LeadsBack net π t s → LeadsBack net routed t s
  kept_home t h home = (home.0, same_back home.0 t h home.1 home.0 (omega arith) ∙ home.1)

  -- the ends of the first n places lead back
  joined_home : (n k : ℕ) → k < n → k < length joins → LeadsBack net routed (to_of net (get_or joins k first_id)) s
  joined_home zero k l m = absurd (omega arith)
  joined_home (suc n) k l m =
      let p : PlaceId = get_or joins k first_id in
      let j : Joins net parts part π s (take k joins) p = (r.each k m).joins_ in
      let from_home : LeadsBack net routed (from_of net p) s =
      ⊎_elim
      (λ (home : LeadsBack net π (from_of net p) s). kept_home (from_of net p) j.inside.from_member home)
      (λ (w : Any (λ q. to_of net q ≡ from_of net p) (take k joins)).
      let i : ℕ = w.0 in
      let x : PlaceId = w.1 in
      let ik : i < k = omega (arith, w.2, length-take-le k joins (omega arith)) in
      let read : get_or joins i first_id ≡ x = get_or_default joins i first_id x (omega arith) ∙ (sym (get_or-take k joins i x ik) ∙ w.3) in
      subst (λ y. LeadsBack net routed y s) (ap (to_of net) read ∙ w.4) (joined_home n i (omega arith) (omega arith)))
      j.from_routed in
      let own : routed (to_of net p) ≡ p = r.joined k first_id m in
      (from_home.0 + 1, sym (back_add net routed from_home.0 1 (to_of net p)) ∙ (ap (step_back net routed from_home.0) (ap (from_of net) own) ∙ from_home.1))

  pub all_home : (t : ℕ) → IsMember parts part t → LeadsBack net routed t s
  all_home t h =
      ⊎_elim
      (λ (home : LeadsBack net π t s). kept_home t h home)
      (λ (w : Any (λ q. to_of net q ≡ t) joins).
      subst (λ y. LeadsBack net routed y s) (ap (to_of net) (get_or_default joins w.0 first_id w.1 w.2 ∙ w.3) ∙ w.4) (joined_home (suc w.0) w.0 (omega arith) w.2))
      (r.all t h)

  pub routed_is_policy : IsPolicy net parts part routed
  routed_is_policy t h =
      ⊎_elim
      (λ (home : LeadsBack net π t s). rw (r.kept t h home) (ok t h))
      (λ (w : Any (λ q. to_of net q ≡ t) joins).
      let p : PlaceId = get_or joins w.0 first_id in
      let j : Joins net parts part π s (take w.0 joins) p = (r.each w.0 w.2).joins_ in
      let ends : to_of net p ≡ t = ap (to_of net) (get_or_default joins w.0 first_id w.1 w.2 ∙ w.3) ∙ w.4 in
      let own : routed t ≡ p = ap routed (sym ends) ∙ r.joined w.0 first_id w.2 in
      subst (Enters net parts part t) (sym own) (record { inside = j.inside; ends = ends }))
      (r.all t h)

  -- the circuit itself stays
  pub circuit_kept : (c : List PlaceId) → IsPolicyCircuit net parts part π c → s ≡ first_transition_of net c → IsPolicyCircuit net parts part routed c
  circuit_kept c is e = record {
    circuit = is.circuit;
    inside = is.inside;
    own = λ i d l.
        let p : PlaceId = get_or c i d in
        let home : LeadsBack net π (to_of net p) s = subst (λ x. LeadsBack net π (to_of net p) x) (sym e) (on_circuit net parts part π c is i d l) in
        r.kept (to_of net p) (is.inside i d l).to_member home ∙ is.own i d l;
  }
