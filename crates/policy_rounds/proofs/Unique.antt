-- The rules determine the run: two rounds that follow from one agree.
use Rattle.std.proofs.Common.{ℕ, zero, suc, ◌+◌, ◌*◌, ◌<◌, ◌≤◌, ◌≡◌, ◌≢◌, List, [], ◌∷◌, ◌++◌, length, get_or, take, refl, sym, ap, subst, ◌∙◌, arith, ⊎_elim}
use Rattle.std.specs.Prelude.{ℤ, ◌+ℤ◌, ◌≤ℤ◌, Any}
use Rattle.std.proofs.lemmas.Int.{ints}
use Rattle.std.proofs.lemmas.Bool.{cases_eq, cases_lt}
use Rattle.std.proofs.lemmas.List.{take_more}
use Rattle.std.proofs.Math.Seq.{take-length}
use Rattle.teg_net.specs.declared.entries.PlaceId.{PlaceId}
use Rattle.teg_net.specs.Nets.{NetLists}
use Rattle.teg_net.specs.Circuits.{time_of, tokens_of, from_of}
use Rattle.teg_net.specs.Parts.{IsMember, to_of}
use Rattle.policy_rounds.specs.Policies.{Policy, IsPolicy, IsPolicyCircuit, IsBestCircuit, step_back, LeadsBack, IsRouted, JoinsNext, IsRouting, AreSums, Improves, IsImprovement, first_id, offer_of}
use Rattle.teg_net.specs.PartAnswers.{first_transition_of}
use Rattle.teg_net.specs.ReducedTimes.{reduced_time}
use Rattle.policy_rounds.proofs.Back.{back_member, back_add}
use Rattle.policy_rounds.proofs.Turns.{cases_improves}
use Rattle.teg_net.proofs.Reading.{same_id}
use Rattle.policy_rounds.proofs.PolicyCircuits.{same_circuit}

one_between : (x y : ℤ) → x ≤ℤ y → y ≤ℤ x → x ≡ y
one_between x y a b = omega (arith, ints)

module _ (net : NetLists) (parts : List ℕ) (part : ℕ) where
  -- a better policy is determined at the members
  pub one_improvement : (a b : ℕ) (π : Policy) (v : ℕ → ℤ) (f g : Policy) → IsImprovement net parts part a b π v f
      → IsImprovement net parts part a b π v g → (t : ℕ) → IsMember parts part t → f t ≡ g t
  one_improvement a b π v f g h k t m =
      ⊎_elim
      (λ (w : (p : PlaceId) × Improves net parts part a b v t p).
      let x = h.taken t m w in
      let y = k.taken t m w in
      let low = y.greatest (f t) x.improves.enters in
      let high = x.greatest (g t) y.improves.enters in
      let same : offer_of net a b v (f t) ≡ offer_of net a b v (g t) = one_between (offer_of net a b v (f t)) (offer_of net a b v (g t)) low high in
      let one = y.lowest (f t) x.improves.enters same in
      let two = x.lowest (g t) y.improves.enters (sym same) in
      same_id (f t) (g t) (omega arith))
      (λ (none : (p : PlaceId) → Improves net parts part a b v t p → ⊥). h.kept t m none ∙ sym (k.kept t m none))
      (cases_improves net parts part a b v t)

  -- what is said of a policy holds of one that agrees
  pub back_agrees : (π σ : Policy) → IsPolicy net parts part π → ((t : ℕ) → IsMember parts part t → π t ≡ σ t) → (m t : ℕ) → IsMember parts part t → step_back net π m t ≡ step_back net σ m t
  back_agrees π σ ok e zero t i = refl
  back_agrees π σ ok e (suc m) t i =
      let rest = back_agrees π σ ok e m t i in
      ap (from_of net) (e (step_back net π m t) (back_member net parts part π ok m t i) ∙ ap σ rest)

  pub leads_agrees : (π σ : Policy) → IsPolicy net parts part π → ((t : ℕ) → IsMember parts part t → π t ≡ σ t) → (t s : ℕ) → IsMember parts part t → LeadsBack net π t s → LeadsBack net σ t s
  leads_agrees π σ ok e t s i h = (h.0, sym (back_agrees π σ ok e h.0 t i) ∙ h.1)

  pub circuit_agrees : (π σ : Policy) → ((t : ℕ) → IsMember parts part t → π t ≡ σ t) → (c : List PlaceId) → IsPolicyCircuit net parts part π c → IsPolicyCircuit net parts part σ c
  circuit_agrees π σ e c h = record { circuit = h.circuit; inside = h.inside; own = λ i d l. sym (e (to_of net (get_or c i d)) (h.inside i d l).to_member) ∙ h.own i d l }

  -- the best circuit is determined
  pub one_best : (π : Policy) (ok : IsPolicy net parts part π) (Kind : ℕ → Type 0) (c d : List PlaceId)
      → IsBestCircuit net parts part π Kind c → IsBestCircuit net parts part π Kind d → c ≡ d
  one_best π ok Kind c d h k =
      let one = h.greatest d k.is k.through in
      let two = k.greatest c h.is h.through in
      let same : time_of net d * tokens_of net c ≡ time_of net c * tokens_of net d = omega arith in
      let low = h.lowest d k.is k.through same in
      let high = k.lowest c h.is h.through (sym same) in
      let root : first_transition_of net c ≡ first_transition_of net d = omega arith in
      same_circuit net parts part π ok c d h.is k.is root

  -- the routing is determined
  one_join : (π : Policy) (s : ℕ) (joins : List PlaceId) (p q : PlaceId) → JoinsNext net parts part π s joins p → JoinsNext net parts part π s joins q → p ≡ q
  one_join π s joins p q h k =
      let a = h.lowest q k.joins_ in
      let b = k.lowest p h.joins_ in
      same_id p q (omega arith)

  joins_equal : (π ρ σ : Policy) (s : ℕ) (js ks : List PlaceId) → IsRouting net parts part π s js ρ → IsRouting net parts part π s ks σ
      → (n : ℕ) → n ≤ length js → n ≤ length ks → take n js ≡ take n ks
  joins_equal π ρ σ s js ks h k zero l m = refl
  joins_equal π ρ σ s js ks h k (suc n) l m =
      let rest = joins_equal π ρ σ s js ks h k n (omega arith) (omega arith) in
      let jn : n < length js = omega arith in
      let kn : n < length ks = omega arith in
      let same = one_join π s (take n js) (get_or js n first_id) (get_or ks n first_id) (h.each n jn) (subst (λ x. JoinsNext net parts part π s x (get_or ks n first_id)) (sym rest) (k.each n kn)) in
      let e : n + 1 ≡ suc n = omega arith in
      subst (λ x. take x js ≡ take x ks) e
      (take_more js n first_id jn ∙ (ap (λ x. x ++ get_or js n first_id ∷ []) rest ∙ (ap (λ x. take n ks ++ x ∷ []) same ∙ sym (take_more ks n first_id kn))))

  not_shorter : (π ρ σ : Policy) (s : ℕ) (js ks : List PlaceId) → IsRouting net parts part π s js ρ → IsRouting net parts part π s ks σ → length js ≤ length ks → length ks ≤ length js
  not_shorter π ρ σ s js ks h k l =
      ⊎_elim
      (λ (q : length js < length ks).
      let same : take (length js) js ≡ take (length js) ks = joins_equal π ρ σ s js ks h k (length js) (omega arith) (omega arith) in
      let next = (k.each (length js) q).joins_ in
      let t : ℕ = to_of net (get_or ks (length js) first_id) in
      let routed : IsRouted net π s js t = h.all t next.inside.to_member in
      absurd (next.to_unrouted (subst (λ x. IsRouted net π s x t) (sym (take-length js) ∙ same) routed)))
      (λ (q : length ks ≤ length js). q)
      (cases_lt (length js) (length ks))

  pub one_routing : (π ρ σ : Policy) (s : ℕ) (js ks : List PlaceId) → IsRouting net parts part π s js ρ → IsRouting net parts part π s ks σ → (t : ℕ) → IsMember parts part t → ρ t ≡ σ t
  one_routing π ρ σ s js ks h k t i =
      let long : length js ≡ length ks =
      ⊎_elim
      (λ (q : length js < length ks). let m = not_shorter π ρ σ s js ks h k (omega arith) in let r : length js ≡ length ks = omega arith in r)
      (λ (q : length ks ≤ length js). let m = not_shorter π σ ρ s ks js k h q in let r : length js ≡ length ks = omega arith in r)
      (cases_lt (length js) (length ks)) in
      let same : js ≡ ks = sym (take-length js) ∙ (joins_equal π ρ σ s js ks h k (length js) (omega arith) (omega arith) ∙ (ap (λ n. take n ks) long ∙ take-length ks)) in
      ⊎_elim
      (λ (w : LeadsBack net π t s). h.kept t i w ∙ sym (k.kept t i w))
      (λ (w : Any (λ q. to_of net q ≡ t) js).
      let p : PlaceId = get_or js w.0 w.1 in
      let to : to_of net p ≡ t = ap (to_of net) w.3 ∙ w.4 in
      let lk : w.0 < length ks = let l = w.2 in omega arith in
      let q_is : get_or ks w.0 w.1 ≡ p = ap (λ x. get_or x w.0 w.1) (sym same) in
      let one : ρ t ≡ p = ap ρ (sym to) ∙ h.joined w.0 w.1 w.2 in
      let two : σ t ≡ p = subst (λ x. σ x ≡ p) to (subst (λ z. σ (to_of net z) ≡ z) q_is (k.joined w.0 w.1 lk)) in
      one ∙ sym two)
      (h.all t i)

  -- the potentials are determined
  pub one_sums : (a b s : ℕ) (ρ σ : Policy) → IsPolicy net parts part ρ → ((t : ℕ) → IsMember parts part t → ρ t ≡ σ t) → (v w : ℕ → ℤ)
      → AreSums net parts part a b ρ s v → AreSums net parts part a b σ s w
      → (m t : ℕ) → IsMember parts part t → step_back net ρ m t ≡ s → v t ≡ w t
  one_sums a b s ρ σ ok e v w h k zero t i l = ap v l ∙ (h.start ∙ (sym k.start ∙ ap w (sym l)))
  one_sums a b s ρ σ ok e v w h k (suc m) t i l =
      ⊎_elim
      (λ (q : t ≡ s). ap v q ∙ (h.start ∙ (sym k.start ∙ ap w (sym q))))
      (λ (ne : t ≢ s).
      let is : m + 1 ≡ suc m = omega arith in
      let u : ℕ = from_of net (ρ t) in
      let ui : IsMember parts part u = (ok t i).inside.from_member in
      let shift : step_back net ρ m u ≡ s = back_add net ρ m 1 t ∙ (ap (λ n. step_back net ρ n t) is ∙ l) in
      let rest : v u ≡ w u = one_sums a b s ρ σ ok e v w h k m u ui shift in
      let x : w t ≡ offer_of net a b w (ρ t) = subst (λ p. w t ≡ offer_of net a b w p) (sym (e t i)) (k.others t i ne) in
      h.others t i ne ∙ (ap (λ z. reduced_time net a b (ρ t) +ℤ z) rest ∙ sym x))
      (cases_eq t s)
