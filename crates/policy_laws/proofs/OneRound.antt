-- What a round that keeps its circuit gains: no potential falls, and each reaches what places offered it.
use Rattle.std.proofs.Common.{ℕ, ◌<◌, ◌≡◌, List, [], ◌∷◌, length, get_or, refl, ap, subst, ◌∙◌, arith, ⊎_elim}
use Rattle.std.specs.Prelude.{ℤ, pos, ◌+ℤ◌, ◌≤ℤ◌, ◌<ℤ◌, All}
use Rattle.std.proofs.lemmas.Int.{ints, by_lt_z}
use Rattle.std.proofs.lemmas.List.Elements.{All-tail}
use Rattle.teg_net.specs.declared.entries.PlaceId.{PlaceId}
use Rattle.teg_net.specs.declared.rounds.Round.{Round}
use Rattle.teg_net.specs.Nets.{NetLists}
use Rattle.teg_net.specs.Ratios.{Fraction}
use Rattle.teg_net.specs.Circuits.{from_of, IsPathBetween}
use Rattle.teg_net.specs.Parts.{to_of, IsMember, IsPlaceOfPart, ListsMembers}
use Rattle.teg_net.specs.ReducedTimes.{reduced_time, reduced_time_of}
use Rattle.teg_net.specs.PartAnswers.{first_transition_of}
use Rattle.policy_rounds.specs.Policies.{Enters, LeadsBack, AreSums, Improves, offer_of}
use Rattle.policy_rounds.specs.PolicyRounds.{chosen, potential, IsRound, KeepsCircuit, FollowsRound}
use Rattle.policy_rounds.proofs.Turns.{cases_improves, everywhere, better_is_policy, offers, rises}
use Rattle.policy_rounds.proofs.Back.{trail, trail_leads, trail_inside, trail_own}
use Rattle.policy_laws.proofs.InPart.{shorten_in}

-- both rounds have the ratio and the circuit, no potential of the first falls, and each of the second is at least what a
-- place of the part offered its end
pub record Gains (net : NetLists) (parts : List ℕ) (part : ℕ) (q : Fraction) (r s : Round) : Type 0 where
  pub here : r.ratio ≡ q
  pub next : s.ratio ≡ q
  pub circuit : s.circuit.places.items ≡ r.circuit.places.items
  pub rising : (t : ℕ) → IsMember parts part t → potential r t ≤ℤ potential s t
  pub taken : (t : ℕ) (p : PlaceId) → IsMember parts part t → Enters net parts part t p → offer_of net q.time q.tokens (potential r) p ≤ℤ potential s t
  pub improvable : (t : ℕ) × (p : PlaceId) × Improves net parts part q.time q.tokens (potential r) t p

module _ (net : NetLists) (parts : List ℕ) (part : ℕ) where
  abbrev pub LeadsHome : Round → Type 0
  LeadsHome r = (t : ℕ) → IsMember parts part t → LeadsBack net (chosen r) t (first_transition_of net r.circuit.places.items)

  module _ (r s : Round) (h : IsRound net parts part r) (home : LeadsHome r) (f : FollowsRound net parts part r s) (keep : KeepsCircuit net parts part r s f.better) where
    abbrev a : ℕ
    a = r.ratio.time

    abbrev b : ℕ
    b = r.ratio.tokens

    abbrev v : ℕ → ℤ
    v = potential r

    abbrev w : ℕ → ℤ
    w = potential s

    abbrev root : ℕ
    root = first_transition_of net r.circuit.places.items

    sums_at : AreSums net parts part a b (chosen s) root w
    sums_at = subst (λ x. AreSums net parts part x.time x.tokens (chosen s) root w) keep.same_ratio
        (subst (λ x. AreSums net parts part s.ratio.time s.ratio.tokens (chosen s) (first_transition_of net x) w) keep.same_circuit f.round.sums)

    sums_by : AreSums net parts part a b f.better root w
    sums_by = record {
      start = sums_at.start;
      others = λ t m ne. subst (λ p. w t ≡ (reduced_time net a b p +ℤ w (from_of net p))) (keep.same_places t m) (sums_at.others t m ne);
    }

    rises_at : (t : ℕ) → IsMember parts part t → v t ≤ℤ w t
    rises_at t m = rises net parts part (chosen r) h.policy a b r.circuit.places.items h.circuit h.ratio.same v h.sums f.better f.improves home keep.none_new w sums_by t m

    -- the better place offers as much as any
    most : (t : ℕ) (p : PlaceId) → IsMember parts part t → Enters net parts part t p → offer_of net a b v p ≤ℤ offer_of net a b v (f.better t)
    most t p m e = ⊎_elim
        (λ (i : (p : PlaceId) × Improves net parts part a b v t p). (f.improves.taken t m i).greatest p e)
        (λ (none : (p : PlaceId) → Improves net parts part a b v t p → ⊥).
        let own = offers net parts part (chosen r) h.policy a b r.circuit.places.items h.circuit h.ratio.same v h.sums f.better f.improves t m in
        by_lt_z (v t) (offer_of net a b v p)
        (λ (more : v t <ℤ offer_of net a b v p). absurd (none p (record { enters = e; more = more })))
        (λ (low : offer_of net a b v p ≤ℤ v t). omega (arith, ints, low, own)))
        (cases_improves net parts part a b v t)

    met_at : (t : ℕ) → IsMember parts part t → w t ≡ offer_of net a b w (f.better t)
    met_at t m =
        let here : w t ≡ offer_of net s.ratio.time s.ratio.tokens w (chosen s t) =
        everywhere net parts part (chosen s) f.round.policy s.ratio.time s.ratio.tokens s.circuit.places.items f.round.circuit
        f.round.ratio.same w f.round.sums t m in
        here ∙ ap (λ x. offer_of net x.time x.tokens w (chosen s t)) keep.same_ratio ∙ ap (offer_of net a b w) (keep.same_places t m)

    taken_at : (t : ℕ) (p : PlaceId) → IsMember parts part t → Enters net parts part t p → offer_of net a b v p ≤ℤ w t
    taken_at t p m e =
        let up = most t p m e in
        let own = met_at t m in
        let ok = better_is_policy net parts part (chosen r) h.policy a b r.circuit.places.items h.circuit h.ratio.same v h.sums f.better f.improves t m in
        let from = rises_at (from_of net (f.better t)) ok.inside.from_member in
        omega (arith, ints, up, own, from)

    pub gains : Gains net parts part r.ratio r s
    gains = record { here = refl; next = keep.same_ratio; circuit = keep.same_circuit; rising = rises_at; taken = taken_at; improvable = f.improvable }

  -- ---- each potential is the reduced time of a short path from the root

  -- a place of the part that just offers its end the potential there
  pub record IsTightPlace (q : Fraction) (v : ℕ → ℤ) (p : PlaceId) : Type 0 where
    pub inside : IsPlaceOfPart net parts part p
    pub tight : v (to_of net p) ≡ offer_of net q.time q.tokens v p

  tight_sum : (q : Fraction) (v : ℕ → ℤ) (ps : List PlaceId) (s t : ℕ) → IsPathBetween net s ps t → All (IsTightPlace q v) ps → (reduced_time_of net q.time q.tokens ps +ℤ v s) ≡ v t
  tight_sum q v [] s t l each = let e : v s ≡ v t = ap v l in omega (arith, ints, e)
  tight_sum q v (p ∷ ps) s t l each =
      let here = (each 0 p (omega arith)).tight in
      let rest = tight_sum q v ps (to_of net p) t l.2 (All-tail (IsTightPlace q v) p ps each) in
      let from : v (from_of net p) ≡ v s = ap v l.1 in
      omega (arith, ints, here, rest, from)

  pub record IsShortPath (r : Round) (n t : ℕ) : Type 0 where
    pub places : List PlaceId
    pub path : IsPathBetween net (first_transition_of net r.circuit.places.items) places t
    pub inside : All (IsPlaceOfPart net parts part) places
    pub short : length places < n
    pub is : potential r t ≡ reduced_time_of net r.ratio.time r.ratio.tokens places

  pub short_path : (r : Round) → IsRound net parts part r → LeadsHome r → (ts : List ℕ) → ListsMembers parts part ts → (t : ℕ) → IsMember parts part t → IsShortPath r (length ts) t
  short_path r h home ts lists t m =
      let root : ℕ = first_transition_of net r.circuit.places.items in
      let v : ℕ → ℤ = potential r in
      let P : PlaceId → Type 0 = IsTightPlace r.ratio v in
      let back = home t m in
      let ps : List PlaceId = trail net (chosen r) back.0 t in
      let path : IsPathBetween net root ps t = subst (λ z. IsPathBetween net z ps t) back.1 (trail_leads net parts part (chosen r) h.policy back.0 t m) in
      let tight : All P ps = λ i d k.
      (let own : chosen r (to_of net (get_or ps i d)) ≡ get_or ps i d = trail_own net parts part (chosen r) h.policy back.0 t m i d k in
      let inside = trail_inside net parts part (chosen r) h.policy back.0 t m i d k in
      let at = everywhere net parts part (chosen r) h.policy r.ratio.time r.ratio.tokens r.circuit.places.items h.circuit h.ratio.same v h.sums (to_of net (get_or ps i d)) inside.to_member in
      record { inside = inside; tight = at ∙ ap (offer_of net r.ratio.time r.ratio.tokens v) own }) in
      let w = shorten_in net parts part ts lists P (λ p q. q.inside) ps root t m path tight in
      let sum = tight_sum r.ratio v w.0 root t w.1 w.2 in
      let start : v root ≡ pos 0 = h.sums.start in
      record { places = w.0; path = w.1; inside = λ i d k. (w.2 i d k).inside; short = w.3; is = omega (arith, ints, sum, start) }
