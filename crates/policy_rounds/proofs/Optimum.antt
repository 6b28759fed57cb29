-- A round that no place improves is optimal.
use Rattle.std.proofs.Common.{ℕ, suc, ◌*◌, ◌<◌, ◌≤◌, ◌≡◌, ◌≢◌, List, get_or, refl, ap, subst, ◌∙◌, arith, ⊎_elim}
use Rattle.std.specs.Prelude.{ℤ, pos, ◌≤ℤ◌, All}
use Rattle.std.proofs.lemmas.Int.{ints, by_lt_z}
use Rattle.std.proofs.lemmas.Bool.{cases_eq}
use Rattle.teg_net.specs.declared.entries.PlaceId.{PlaceId}
use Rattle.teg_net.specs.Nets.{NetLists}
use Rattle.teg_net.specs.Circuits.{IsPathBetween, IsCircuit, IsLive, time_of, tokens_of}
use Rattle.teg_net.specs.Parts.{IsMember, IsPlaceOfPart, to_of}
use Rattle.policy_rounds.specs.Policies.{Policy, IsPolicy, step_back, LeadsBack, offer_of, AreSums, Improves}
use Rattle.teg_net.specs.ReducedTimes.{reduced_time_of}
use Rattle.policy_rounds.proofs.Search.{FirstBelow, first_below}
use Rattle.policy_rounds.proofs.Back.{trail, trail_leads, trail_inside}
use Rattle.teg_certificates.proofs.PathSums.{weight_is, above_along}
use Rattle.policy_rounds.proofs.Sums.{sum_back}

module _ (net : NetLists) (parts : List ℕ) (part a b : ℕ) (v : ℕ → ℤ) (none : (t : ℕ) (p : PlaceId) → Improves net parts part a b v t p → ⊥) where
  -- no place offers its end more than the potential there
  pub no_offer : (p : PlaceId) → IsPlaceOfPart net parts part p → offer_of net a b v p ≤ℤ v (to_of net p)
  no_offer p h = by_lt_z (v (to_of net p)) (offer_of net a b v p) (λ l. absurd (none (to_of net p) p (record { enters = record { inside = h; ends = refl }; more = l }))) (λ l. l)

  -- so no circuit in the part has a greater ratio
  pub greatest_in_part : (ps : List PlaceId) → IsCircuit net ps → All (IsPlaceOfPart net parts part) ps → b * time_of net ps ≤ a * tokens_of net ps
  greatest_in_part ps c h =
      let up = above_along net a b v ps c.closed.0 c.closed.0 (λ i d l. no_offer (get_or ps i d) (h i d l)) c.closed.1 in
      let w = weight_is net a b ps in
      omega (arith, ints, up, w)

  -- and each potential is at least the sum along every path in the part
  pub no_greater_sum : (ps : List PlaceId) (s t : ℕ) → v s ≡ pos 0 → IsPathBetween net s ps t → All (IsPlaceOfPart net parts part) ps → reduced_time_of net a b ps ≤ℤ v t
  no_greater_sum ps s t z l h =
      let up = above_along net a b v ps s t (λ i d m. no_offer (get_or ps i d) (h i d m)) l in
      omega (arith, ints, up, z)

-- each potential is the sum along the policy's own path
pub sum_attained :
    (net : NetLists) (parts : List ℕ) (part : ℕ) (π : Policy) (ok : IsPolicy net parts part π) (a b s : ℕ) (v : ℕ → ℤ) → AreSums net parts part a b π s v
    → (t : ℕ) → IsMember parts part t → LeadsBack net π t s → (ps : List PlaceId) × IsPathBetween net s ps t × All (IsPlaceOfPart net parts part) ps × (v t ≡ reduced_time_of net a b ps)
sum_attained net parts part π ok a b s v sums t h home =
    let first =
    ⊎_elim {C = (m : ℕ) × FirstBelow (λ j. step_back net π j t ≡ s) (suc home.0) m}
    (λ (f : (m : ℕ) × FirstBelow (λ j. step_back net π j t ≡ s) (suc home.0) m). f)
    (λ (no_one : (k : ℕ) → k < suc home.0 → step_back net π k t ≡ s → ⊥). absurd (no_one home.0 (omega arith) home.1))
    (first_below (λ j. step_back net π j t ≡ s) (λ j. cases_eq (step_back net π j t) s) (suc home.0)) in
    let m : ℕ = first.0 in
    let sum = sum_back net parts part π ok a b s v sums m t h first.1.first in
    let zero_is : v (step_back net π m t) ≡ pos 0 = ap v first.1.meets ∙ sums.start in (
      trail net π m t,
      subst (λ x. IsPathBetween net x (trail net π m t) t) first.1.meets (trail_leads net parts part π ok m t h),
      trail_inside net parts part π ok m t h,
      omega (arith, ints, sum, zero_is),
    )

-- each circuit of a live net has a token
pub some_token : (net : NetLists) → IsLive net → (ps : List PlaceId) → IsCircuit net ps → 0 < tokens_of net ps
some_token net live ps c = ⊎_elim (λ (e : tokens_of net ps ≡ 0). absurd (live ps c e)) (λ (e : tokens_of net ps ≢ 0). omega arith) (cases_eq (tokens_of net ps) 0)
