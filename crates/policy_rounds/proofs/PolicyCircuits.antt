-- Circuits of a policy: two that begin alike are one, how long they are, and what their sums are at most.
use Rattle.std.proofs.Common.{ℕ, zero, suc, ◌+◌, ◌-◌, ◌*◌, ◌<◌, ◌≤◌, ◌≡◌, List, length, sym, ap, subst, ◌∙◌, arith, ⊎_elim}
use Rattle.std.proofs.lemmas.Bool.{cases_lt}
use Rattle.std.proofs.lemmas.List.Sums.{sum_by-cons}
use Rattle.teg_net.specs.declared.entries.PlaceId.{PlaceId}
use Rattle.teg_net.specs.Nets.{NetLists, IsNet, IsPlaceOf}
use Rattle.teg_net.specs.Circuits.{place_at, no_place, time_of, tokens_of}
use Rattle.teg_net.specs.Parts.{IsMember}
use Rattle.policy_rounds.specs.Policies.{Policy, IsPolicy, IsPolicyCircuit, step_back}
use Rattle.teg_net.specs.PartAnswers.{first_transition_of}
use Rattle.teg_net.specs.Limits.{greatest_circuit_time, greatest_hold, most_circuit_tokens}
use Rattle.policy_rounds.proofs.number_laws_proofs.Pigeons.{pigeons}
use Rattle.policy_rounds.proofs.Back.{trail, back_add, back_member}
use Rattle.policy_rounds.proofs.Turns.{circuit_trail, root_member, no_early}

module _ (net : NetLists) (parts : List ℕ) (part : ℕ) (π : Policy) (ok : IsPolicy net parts part π) where
  -- two circuits of a policy that begin at one transition are one
  pub same_circuit : (c d : List PlaceId) → IsPolicyCircuit net parts part π c → IsPolicyCircuit net parts part π d → first_transition_of net c ≡ first_transition_of net d → c ≡ d
  same_circuit c d hc hd e =
      let tc = circuit_trail net parts part π c hc in
      let td = circuit_trail net parts part π d hd in
      let long : length c ≡ length d =
      ⊎_elim
      (λ (l : length c < length d). absurd (no_early net parts part π d hd (length c) hc.circuit.not_empty l (subst (λ x. step_back net π (length c) x ≡ x) e tc.1)))
      (λ (l : length d ≤ length c).
      ⊎_elim
      (λ (q : length d < length c). absurd (no_early net parts part π c hc (length d) hd.circuit.not_empty q (subst (λ x. step_back net π (length d) x ≡ x) (sym e) td.1)))
      (λ (q : length c ≤ length d). let r : length c ≡ length d = omega arith in r)
      (cases_lt (length d) (length c)))
      (cases_lt (length c) (length d)) in
      tc.0 ∙ (ap (λ n. trail net π n (first_transition_of net c)) long ∙ (ap (trail net π (length d)) e ∙ sym td.0))

  -- a circuit has at most as many places as there are transitions
  pub circuit_short : (c : List PlaceId) → IsPolicyCircuit net parts part π c → length c ≤ length parts
  circuit_short c hc =
      ⊎_elim
      (λ (l : length parts < length c).
      let s : ℕ = first_transition_of net c in
      let n : ℕ = length c in
      let tc = circuit_trail net parts part π c hc in
      let p = pigeons (length parts) (λ i. step_back net π i s) (λ i q. (back_member net parts part π ok i s (root_member net parts part π c hc)).in_range) in
      let i : ℕ = p.0 in
      let j : ℕ = p.1 in
      let up : i < j = p.2 in
      let few : j ≤ length parts = p.3 in
      let whole : (n - j) + j ≡ n = omega arith in
      let home : step_back net π (n - j) (step_back net π j s) ≡ s = back_add net π (n - j) j s ∙ (ap (λ x. step_back net π x s) whole ∙ tc.1) in
      let early : step_back net π ((n - j) + i) s ≡ s = sym (back_add net π (n - j) i s) ∙ (ap (step_back net π (n - j)) p.4 ∙ home) in
      absurd (no_early net parts part π c hc ((n - j) + i) (omega arith) (omega arith) early))
      (λ (l : length c ≤ length parts). l)
      (cases_lt (length parts) (length c))

module _ (net : NetLists) (parts : List ℕ) (part : ℕ) (π : Policy) (ok : IsPolicy net parts part π) (kept : IsNet net) where
  pub trail_sums : (m t : ℕ) → IsMember parts part t → (time_of net (trail net π m t) ≤ m * greatest_hold) × (tokens_of net (trail net π m t) ≤ m * 1000)
  trail_sums zero t h = (omega arith, omega arith)
  trail_sums (suc m) t h =
      let rest = trail_sums m t h in
      let p : PlaceId = π (step_back net π m t) in
      let e = sum_by-cons (λ q. (place_at net q).hold) p (trail net π m t) in
      let f = sum_by-cons (λ q. (place_at net q).tokens) p (trail net π m t) in
      let inside = (ok (step_back net π m t) (back_member net parts part π ok m t h)).inside in
      let is : IsPlaceOf net (place_at net p) = kept.each_place p.index no_place inside.in_range in
      let hold = is.hold_in in
      let token = is.tokens_in in
      (omega (arith, rest.0), omega (arith, rest.1))

pub found_sums_in : (m n time tokens : ℕ) → time ≤ m * greatest_hold → tokens ≤ m * 1000 → m ≤ n → n ≤ 400 → (time ≤ greatest_circuit_time) × (tokens ≤ most_circuit_tokens)
found_sums_in m n time tokens a b l k = (omega arith, omega arith)
