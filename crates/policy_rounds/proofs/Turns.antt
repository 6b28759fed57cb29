-- One round and the next: what improves, what is routed, and why the pair of ratio and potentials rises.
use Rattle.std.proofs.Common.{ℕ, zero, suc, ◌+◌, ◌-◌, ◌*◌, ◌<◌, ◌≤◌, ◌≡◌, ◌≢◌, List, [], ◌∷◌, ◌++◌, length, get_or, refl, sym, ap, subst, ◌∙◌, arith, inl, inr, ⊎_elim}
use Rattle.std.specs.Prelude.{ℤ, pos, ◌+ℤ◌, ◌≤ℤ◌, ◌<ℤ◌, All, Any, ◌⊎◌}
use Rattle.std.proofs.lemmas.Int.{ints, by_lt_z}
use Rattle.std.proofs.lemmas.Bool.{cases_eq, cases_lt}
use Rattle.teg_net.specs.declared.entries.PlaceId.{PlaceId}
use Rattle.teg_net.specs.Nets.{NetLists}
use Rattle.teg_net.specs.Circuits.{time_of, tokens_of, from_of}
use Rattle.teg_net.specs.Parts.{IsMember, IsPlaceOfPart, to_of}
use Rattle.policy_rounds.specs.Policies.{Policy, IsPolicy, Enters, IsPolicyCircuit, step_back, LeadsBack, first_id, offer_of, AreSums, Improves, IsImprovement, IsChanged}
use Rattle.teg_net.specs.PartAnswers.{first_transition_of}
use Rattle.teg_net.specs.ReducedTimes.{reduced_time, reduced_time_of}
use Rattle.policy_rounds.proofs.Search.{FirstBelow, first_below}
use Rattle.policy_rounds.proofs.Back.{trail, length-trail, back_add, get_or-trail, back_member, trail_leads, trail_inside, trail_own, trail_circuit, first_return, to_a_circuit}
use Rattle.teg_certificates.proofs.PathSums.{weight_is, weight-append}
use Rattle.policy_rounds.proofs.Sums.{below_along, above_by_one, trail_add, own_trail, sum_back}
use Rattle.teg_net.proofs.Reading.{same_id}

pub cases_id : (p q : PlaceId) → (p ≡ q) ⊎ (p ≢ q)
cases_id p q = ⊎_elim (λ (e : p.index ≡ q.index). inl (same_id p q e)) (λ (e : p.index ≢ q.index). inr (λ f. e (ap (λ r. r.index) f))) (cases_eq p.index q.index)

pub cases_member : (parts : List ℕ) (part t : ℕ) → IsMember parts part t ⊎ (IsMember parts part t → ⊥)
cases_member parts part t =
    ⊎_elim
    (λ (l : t < length parts).
    ⊎_elim
    (λ (e : get_or parts t 0 ≡ part). inl (record { in_range = l; here = e }))
    (λ (e : get_or parts t 0 ≢ part). inr (λ m. e m.here))
    (cases_eq (get_or parts t 0) part))
    (λ (l : length parts ≤ t). inr (λ m. let r = m.in_range in absurd (omega arith)))
    (cases_lt t (length parts))

pub cases_both : {A B : Type 0} → A ⊎ (A → ⊥) → B ⊎ (B → ⊥) → (A × B) ⊎ (A × B → ⊥)
cases_both {A} {B} x y =
    ⊎_elim
    (λ (a : A). ⊎_elim (λ (b : B). inl (a, b)) (λ (z : B → ⊥). inr (λ w. z w.1)) y)
    (λ (z : A → ⊥). inr (λ w. z w.0))
    x

pub cases_less : (x y : ℤ) → (x <ℤ y) ⊎ (x <ℤ y → ⊥)
cases_less x y = by_lt_z x y (λ l. inl l) (λ l. inr (λ m. absurd (omega (arith, ints))))

module _ (net : NetLists) (parts : List ℕ) (part : ℕ) where
  pub cases_enters : (t : ℕ) (p : PlaceId) → Enters net parts part t p ⊎ (Enters net parts part t p → ⊥)
  cases_enters t p =
      let range : (p.index < length net.places) ⊎ (p.index < length net.places → ⊥) =
      ⊎_elim (λ (l : p.index < length net.places). inl l) (λ (l : length net.places ≤ p.index). inr (λ m. absurd (omega arith)))
      (cases_lt p.index (length net.places)) in
      let ends = cases_both (cases_member parts part (from_of net p)) (cases_both (cases_member parts part (to_of net p)) (cases_eq (to_of net p) t)) in
      ⊎_elim
      (λ (w : (p.index < length net.places) × (IsMember parts part (from_of net p) × (IsMember parts part (to_of net p) × (to_of net p ≡ t)))).
      inl (record { inside = record { in_range = w.0; from_member = w.1.0; to_member = w.1.1.0 }; ends = w.1.1.1 }))
      (λ (z : (p.index < length net.places) × (IsMember parts part (from_of net p) × (IsMember parts part (to_of net p) × (to_of net p ≡ t))) → ⊥).
      inr (λ e. z (e.inside.in_range, (e.inside.from_member, (e.inside.to_member, e.ends)))))
      (cases_both range ends)

  pub cases_improves_by : (a b : ℕ) (v : ℕ → ℤ) (t : ℕ) (p : PlaceId) → Improves net parts part a b v t p ⊎ (Improves net parts part a b v t p → ⊥)
  cases_improves_by a b v t p =
      ⊎_elim
      (λ (w : Enters net parts part t p × (v t <ℤ offer_of net a b v p)). inl (record { enters = w.0; more = w.1 }))
      (λ (z : Enters net parts part t p × (v t <ℤ offer_of net a b v p) → ⊥). inr (λ i. z (i.enters, i.more)))
      (cases_both (cases_enters t p) (cases_less (v t) (offer_of net a b v p)))

  -- some place improves t, or none does
  pub cases_improves : (a b : ℕ) (v : ℕ → ℤ) (t : ℕ) → ((p : PlaceId) × Improves net parts part a b v t p) ⊎ ((p : PlaceId) → Improves net parts part a b v t p → ⊥)
  cases_improves a b v t =
      let at = λ (i : ℕ). let r : PlaceId = record { index = i } in r in
      ⊎_elim
      (λ (f : (m : ℕ) × FirstBelow (λ i. Improves net parts part a b v t (at i)) (length net.places) m). inl (at f.0, f.1.meets))
      (λ (none : (k : ℕ) → k < length net.places → Improves net parts part a b v t (at k) → ⊥). inr (λ p i. none p.index i.enters.inside.in_range i))
      (first_below (λ i. Improves net parts part a b v t (at i)) (λ i. cases_improves_by a b v t (at i)) (length net.places))

  -- a policy's circuit is the trail from where it begins
  pub circuit_trail : (π : Policy) (c : List PlaceId) → IsPolicyCircuit net parts part π c
      → (c ≡ trail net π (length c) (first_transition_of net c)) × (step_back net π (length c) (first_transition_of net c) ≡ first_transition_of net c)
  circuit_trail π [] h = absurd (omega (arith, h.circuit.not_empty))
  circuit_trail π (p ∷ ps) h =
      let s : ℕ = h.circuit.closed.0 in
      let l = h.circuit.closed.1 in
      let begins : from_of net p ≡ s = l.1 in
      let e = own_trail net π (length (p ∷ ps)) (p ∷ ps) s s refl h.own l in
      subst (λ x. ((p ∷ ps) ≡ trail net π (length (p ∷ ps)) x) × (step_back net π (length (p ∷ ps)) x ≡ x)) (sym begins) (e.0, sym e.1)

  -- it begins at a member
  pub root_member : (π : Policy) (c : List PlaceId) → IsPolicyCircuit net parts part π c → IsMember parts part (first_transition_of net c)
  root_member π c h = (h.inside 0 first_id h.circuit.not_empty).from_member

  -- each transition of a policy's circuit comes back to itself, and to the root
  pub on_circuit : (π : Policy) (c : List PlaceId) → IsPolicyCircuit net parts part π c → (k : ℕ) (d : PlaceId) → k < length c → LeadsBack net π (to_of net (get_or c k d)) (first_transition_of net c)
  on_circuit π c h k d l =
      let e = circuit_trail π c h in
      let n : ℕ = length c in
      let root : ℕ = first_transition_of net c in
      let x : ℕ = to_of net (get_or c k d) in
      let own : π x ≡ get_or c k d = h.own k d l in
      let read : get_or c k d ≡ π (step_back net π (n - suc k) root) = ap (λ z. get_or z k d) e.0 ∙ get_or-trail net π n root k d l in
      -- the place begins n - k back from the root, so from its end the root is k + 1 back
      let start : from_of net (get_or c k d) ≡ step_back net π (suc (n - suc k)) root = ap (from_of net) read in
      let whole : k + suc (n - suc k) ≡ n = omega arith in
      let step : step_back net π 1 x ≡ step_back net π (suc (n - suc k)) root = ap (from_of net) own ∙ start in
      (k + 1, sym (back_add net π k 1 x) ∙ (ap (step_back net π k) step ∙ (back_add net π k (suc (n - suc k)) root ∙ (ap (λ m. step_back net π m root) whole ∙ e.1))))

  -- the circuit's transitions but the first are not the root
  pub no_early : (π : Policy) (c : List PlaceId) → IsPolicyCircuit net parts part π c → (j : ℕ) → 0 < j → j < length c → step_back net π j (first_transition_of net c) ≢ first_transition_of net c
  no_early π c is j l m e =
      let t = circuit_trail π c is in
      let n : ℕ = length c in
      let root : ℕ = first_transition_of net c in
      let k : ℕ = n - j in
      let back_is : suc (n - suc k) ≡ j = omega arith in
      let read : get_or c k first_id ≡ π (step_back net π (n - suc k) root) = ap (λ z. get_or z k first_id) t.0 ∙ get_or-trail net π n root k first_id (omega arith) in
      let begins : from_of net (get_or c k first_id) ≡ root = ap (from_of net) read ∙ (ap (λ x. step_back net π x root) back_is ∙ e) in
      is.circuit.leaves_once 0 k first_id (omega arith) (omega arith) (sym begins)

  -- ---- the potentials of a round
  module _ (π : Policy) (ok : IsPolicy net parts part π) (a b : ℕ) (c : List PlaceId) (is : IsPolicyCircuit net parts part π c)
      (ratio : time_of net c * b ≡ a * tokens_of net c) (v : ℕ → ℤ) (sums : AreSums net parts part a b π (first_transition_of net c) v) where
    weight_zero : reduced_time_of net a b c ≡ pos 0
    weight_zero =
        let w = weight_is net a b c in
        let e : b * time_of net c ≡ a * tokens_of net c = grind arith in
        omega (arith, ints)

    off_root : (j : ℕ) → 0 < j → j < length c → step_back net π j (first_transition_of net c) ≢ first_transition_of net c
    off_root j l m = no_early π c is j l m

    -- the equation of the potentials holds at the root too
    pub at_root : v (first_transition_of net c) ≡ offer_of net a b v (π (first_transition_of net c))
    at_root =
        let t = circuit_trail π c is in
        let n : ℕ = length c in
        let root : ℕ = first_transition_of net c in
        let one_less : (n - 1) + 1 ≡ n = omega (arith, is.circuit.not_empty) in
        let x : ℕ = step_back net π 1 root in
        let member : IsMember parts part x = back_member net parts part π ok 1 root (root_member π c is) in
        let shift = λ (j : ℕ). back_add net π j 1 root in
        let sum = sum_back net parts part π ok a b root v sums (n - 1) x member (λ j l. subst (λ y. y ≢ root) (sym (shift j)) (off_root (j + 1) (omega arith) (omega arith))) in
        let home : step_back net π (n - 1) x ≡ root = shift (n - 1) ∙ (ap (λ m. step_back net π m root) one_less ∙ t.1) in
        let parts_of : trail net π n root ≡ trail net π (n - 1) x ++ trail net π 1 root = ap (λ m. trail net π m root) (sym one_less) ∙ trail_add net π (n - 1) 1 root in
        let whole : reduced_time_of net a b c ≡ (reduced_time_of net a b (trail net π (n - 1) x) +ℤ
        (reduced_time net a b (π root) +ℤ pos 0)) = ap (reduced_time_of net a b) (t.0 ∙ parts_of)
        ∙ weight-append net a b (trail net π (n - 1) x) (trail net π 1 root) in
        let zero_is = weight_zero in
        let homely : v (step_back net π (n - 1) x) ≡ v root = ap v home in
        let start = sums.start in
        omega (arith, ints, sum, whole, zero_is, homely, start)

    pub everywhere : (t : ℕ) → IsMember parts part t → v t ≡ offer_of net a b v (π t)
    everywhere t h = ⊎_elim (λ (e : t ≡ first_transition_of net c). subst (λ x. v x ≡ offer_of net a b v (π x)) (sym e) at_root)
        (λ (e : t ≢ first_transition_of net c). sums.others t h e) (cases_eq t (first_transition_of net c))

    -- ---- and the better policy
    module _ (better : Policy) (imp : IsImprovement net parts part a b π v better) where
      pub better_is_policy : IsPolicy net parts part better
      better_is_policy t h =
          ⊎_elim
          (λ (w : (p : PlaceId) × Improves net parts part a b v t p). (imp.taken t h w).improves.enters)
          (λ (none : (p : PlaceId) → Improves net parts part a b v t p → ⊥). rw (imp.kept t h none) (ok t h))
          (cases_improves a b v t)

      -- a member has changed exactly where its new place offers more
      pub offers_more : (t : ℕ) → IsMember parts part t → better t ≢ π t → v t <ℤ offer_of net a b v (better t)
      offers_more t h ne =
          ⊎_elim
          (λ (w : (p : PlaceId) × Improves net parts part a b v t p). (imp.taken t h w).improves.more)
          (λ (none : (p : PlaceId) → Improves net parts part a b v t p → ⊥). absurd (ne (imp.kept t h none)))
          (cases_improves a b v t)

      pub offers : (t : ℕ) → IsMember parts part t → v t ≤ℤ offer_of net a b v (better t)
      offers t h =
          ⊎_elim
          (λ (e : better t ≡ π t). let here = everywhere t h in rw e (omega (arith, ints, here)))
          (λ (e : better t ≢ π t). let more = offers_more t h e in omega (arith, ints, more))
          (cases_id (better t) (π t))

      offers_on : (ps : List PlaceId) → All (IsPlaceOfPart net parts part) ps → All (λ p. better (to_of net p) ≡ p) ps → All (λ p. v (to_of net p) ≤ℤ offer_of net a b v p) ps
      offers_on ps inside own i d l =
          let p : PlaceId = get_or ps i d in
          subst (λ q. v (to_of net p) ≤ℤ offer_of net a b v q) (own i d l) (offers (to_of net p) (inside i d l).to_member)

      -- a circuit of the better policy through a changed member has a greater ratio
      pub greater_ratio : (d : List PlaceId) → IsPolicyCircuit net parts part better d → Any (λ p. IsChanged parts part π better (to_of net p)) d → a * tokens_of net d < b * time_of net d
      greater_ratio d h new =
          let s : ℕ = h.circuit.closed.0 in
          let k : ℕ = new.0 in
          let x : PlaceId = new.1 in
          let more : v (to_of net x) <ℤ offer_of net a b v x =
          subst (λ q. v (to_of net x) <ℤ offer_of net a b v q) (subst (λ q. better (to_of net q) ≡ q) new.3 (h.own k x new.2))
          (offers_more (to_of net x) new.4.0 new.4.1) in
          let there : v (to_of net (get_or d k x)) <ℤ offer_of net a b v (get_or d k x) = subst (λ q. v (to_of net q) <ℤ offer_of net a b v q) (sym new.3) more in
          let up = above_by_one net a b v d s s k x (offers_on d h.inside h.own) h.circuit.closed.1 new.2 there in
          let w = weight_is net a b d in
          omega (arith, ints, up, w)

      -- ---- where no circuit of the better policy passes a changed member
      module _ (back_to_root : (t : ℕ) → IsMember parts part t → LeadsBack net π t (first_transition_of net c))
          (none_new : (d : List PlaceId) → IsPolicyCircuit net parts part better d → Any (λ p. IsChanged parts part π better (to_of net p)) d → ⊥) where
        pub unchanged : (k t : ℕ) → IsMember parts part t → 0 < k → step_back net better k t ≡ t → better t ≡ π t
        unchanged k t h l e =
            ⊎_elim
            (λ (same : better t ≡ π t). same)
            (λ (ne : better t ≢ π t).
            let f = first_return net parts part better better_is_policy k t l e in
            let m : ℕ = f.0 in
            let circuit = trail_circuit net parts part better better_is_policy m t h f.1 f.3 f.4 in
            let at : m - 1 < length (trail net better m t) = omega (arith, length-trail net better m t, f.1) in
            let none_back : m - suc (m - 1) ≡ 0 = omega (arith, f.1) in
            let read : get_or (trail net better m t) (m - 1) (better t) ≡ better t =
            get_or-trail net better m t (m - 1) (better t) (omega (arith, f.1)) ∙ ap (λ j. better (step_back net better j t)) none_back in
            let ends = (better_is_policy t h).ends in
            let change : IsChanged parts part π better (to_of net (better t)) = subst (λ x. IsChanged parts part π better x) (sym ends) (h, ne) in
            absurd (none_new (trail net better m t) circuit (m - 1, better t, at, read, change)))
            (cases_id (better t) (π t))

        -- on a transition that comes again both policies go the same way
        same_way : (k x : ℕ) → IsMember parts part x → 0 < k → step_back net better k x ≡ x → (j : ℕ) → step_back net better j x ≡ step_back net π j x
        same_way k x h l e zero = refl
        same_way k x h l e (suc j) =
            let rest = same_way k x h l e j in
            let y : ℕ = step_back net better j x in
            let turned : step_back net better k y ≡ y = back_add net better k j x
            ∙ (ap (λ n. step_back net better n x) (let s : k + j ≡ j + k = omega arith in s)
            ∙ (sym (back_add net better j k x) ∙ ap (step_back net better j) e)) in
            ap (from_of net) (unchanged k y (back_member net parts part better better_is_policy j x h) l turned ∙ ap π rest)

        pub still_back_to_root : (t : ℕ) → IsMember parts part t → LeadsBack net better t (first_transition_of net c)
        still_back_to_root t h =
            let e = to_a_circuit net parts part better better_is_policy t h in
            let x : ℕ = step_back net better e.0 t in
            let x_in = back_member net parts part better better_is_policy e.0 t h in
            let home = back_to_root x x_in in
            (home.0 + e.0, sym (back_add net better home.0 e.0 t) ∙ (same_way e.1 x x_in e.2 e.3 home.0 ∙ home.1))

        -- the root comes again under the better policy
        root_again : (k : ℕ) × (0 < k) × (step_back net better k (first_transition_of net c) ≡ first_transition_of net c)
        root_again =
            let root : ℕ = first_transition_of net c in
            let h = root_member π c is in
            let e = to_a_circuit net parts part better better_is_policy root h in
            let x : ℕ = step_back net better e.0 root in
            let x_in = back_member net parts part better better_is_policy e.0 root h in
            let home = back_to_root x x_in in
            let there : step_back net better home.0 x ≡ root = same_way e.1 x x_in e.2 e.3 home.0 ∙ home.1 in
            let k : ℕ = e.1 in (
              k,
              e.2,
              ap (step_back net better k) (sym there)
                  ∙ (back_add net better k home.0 x ∙ (ap (λ n. step_back net better n x)
                  (let s : k + home.0 ≡ home.0 + k = omega arith in s) ∙ (sym (back_add net better home.0 k x) ∙ (ap (step_back net better home.0) e.3 ∙ there)))),
            )

        pub still_circuit : IsPolicyCircuit net parts part better c
        still_circuit = record {
          circuit = is.circuit;
          inside = is.inside;
          own = λ i d l.
              let r = root_again in
              let root : ℕ = first_transition_of net c in
              let root_in = root_member π c is in
              let t = circuit_trail π c is in
              let n : ℕ = length c in
              let j : ℕ = n - suc i in
              let p : PlaceId = get_or c i d in
              let own : π (to_of net p) ≡ p = is.own i d l in
              -- the place ends j back from the root
              let read : p ≡ π (step_back net π j root) = ap (λ z. get_or z i d) t.0 ∙ get_or-trail net π n root i d l in
              let end : to_of net p ≡ step_back net π j root = ap (to_of net) read ∙ (ok (step_back net π j root) (back_member net parts part π ok j root root_in)).ends in
              let way = same_way r.0 root root_in r.1 r.2 in
              let step : from_of net (better (step_back net better j root)) ≡ from_of net (π (step_back net π j root)) = way (suc j) in
              let y : ℕ = step_back net better j root in
              let k : ℕ = r.0 in
              let turned : step_back net better k y ≡ y = back_add net better k j root
              ∙ (ap (λ n. step_back net better n root) (let s : k + j ≡ j + k = omega arith in s)
              ∙ (sym (back_add net better j k root) ∙ ap (step_back net better j) r.2)) in
              let same : better y ≡ π y = unchanged k y (back_member net parts part better better_is_policy j root root_in) r.1 turned in
              let y_is : to_of net p ≡ y = end ∙ sym (way j) in
              ap better y_is ∙ (same ∙ (ap π (sym y_is) ∙ own));
        }

        -- ---- the potentials of the better policy at the same ratio
        module _ (w : ℕ → ℤ) (next : AreSums net parts part a b better (first_transition_of net c) w) where
          -- the first time that following backwards comes to the root
          first_home : (t : ℕ) → IsMember parts part t → (m : ℕ) × (step_back net better m t ≡ first_transition_of net c) × ((j : ℕ) → j < m → step_back net better j t ≢ first_transition_of net c)
          first_home t h =
              let home = still_back_to_root t h in
              ⊎_elim
              (λ (f : (m : ℕ) × FirstBelow (λ j. step_back net better j t ≡ first_transition_of net c) (suc home.0) m). (f.0, f.1.meets, f.1.first))
              (λ (none : (k : ℕ) → k < suc home.0 → step_back net better k t ≡ first_transition_of net c → ⊥). absurd (none home.0 (omega arith) home.1))
              (first_below (λ j. step_back net better j t ≡ first_transition_of net c) (λ j. cases_eq (step_back net better j t) (first_transition_of net c)) (suc home.0))

          pub rises : (t : ℕ) → IsMember parts part t → v t ≤ℤ w t
          rises t h =
              let f = first_home t h in
              let m : ℕ = f.0 in
              let sum = sum_back net parts part better better_is_policy a b (first_transition_of net c) w next m t h f.2 in
              let path = trail_leads net parts part better better_is_policy m t h in
              let low = below_along net a b v (trail net better m t) (step_back net better m t) t
              (offers_on (trail net better m t) (trail_inside net parts part better better_is_policy m t h)
              (trail_own net parts part better better_is_policy m t h)) path in
              let vs : v (step_back net better m t) ≡ pos 0 = ap v f.1 ∙ sums.start in
              let ws : w (step_back net better m t) ≡ pos 0 = ap w f.1 ∙ next.start in
              omega (arith, ints, sum, low, vs, ws)

          pub rises_more : (t : ℕ) → IsMember parts part t → better t ≢ π t → v t <ℤ w t
          rises_more t h ne =
              let f = first_home t h in
              let m : ℕ = f.0 in
              let ends = (better_is_policy t h).ends in
              let r = root_again in
              ⊎_elim
              (λ (z : m ≡ 0).
              let root_is : t ≡ first_transition_of net c = ap (λ j. step_back net better j t) (sym z) ∙ f.1 in
              absurd (ne (unchanged r.0 t h r.1 (subst (λ x. step_back net better r.0 x ≡ x) (sym root_is) r.2))))
              (λ (some : m ≢ 0).
              let sum = sum_back net parts part better better_is_policy a b (first_transition_of net c) w next m t h f.2 in
              let path = trail_leads net parts part better better_is_policy m t h in
              let at : m - 1 < length (trail net better m t) = omega (arith, length-trail net better m t) in
              let none_back : m - suc (m - 1) ≡ 0 = omega arith in
              let read : get_or (trail net better m t) (m - 1) (better t) ≡ better t =
              get_or-trail net better m t (m - 1) (better t) (omega arith) ∙ ap (λ j. better (step_back net better j t)) none_back in
              let here : v (to_of net (better t)) <ℤ offer_of net a b v (better t) = subst (λ x. v x <ℤ offer_of net a b v (better t)) (sym ends) (offers_more t h ne) in
              let there : v (to_of net (get_or (trail net better m t) (m - 1) (better t))) <ℤ offer_of net a b v
              (get_or (trail net better m t) (m - 1) (better t)) = subst (λ q. v (to_of net q) <ℤ offer_of net a b v q) (sym read) here in
              let low = above_by_one net a b v (trail net better m t) (step_back net better m t) t (m - 1) (better t)
              (offers_on (trail net better m t) (trail_inside net parts part better better_is_policy m t h)
              (trail_own net parts part better better_is_policy m t h)) path at there in
              let vs : v (step_back net better m t) ≡ pos 0 = ap v f.1 ∙ sums.start in
              let ws : w (step_back net better m t) ≡ pos 0 = ap w f.1 ∙ next.start in
              omega (arith, ints, sum, low, vs, ws))
              (cases_eq m 0)
