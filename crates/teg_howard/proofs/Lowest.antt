-- The loop of `lowest_places`: places from number i on.
use Rattle.std.proofs.Common.{ℕ, ◌+◌, ◌<◌, ◌≤◌, ◌≡◌, ◌≢◌, List, length, set, sym, ap, ◌∙◌, arith, ⊎_elim}
use Rattle.std.proofs.lemmas.Bool.{cases_eq}
use Rattle.std.proofs.lemmas.List.{length-set, get_or-set_same, get_or-set_other}
use Rattle.teg_net.specs.declared.entries.PlaceId.{PlaceId}
use Rattle.teg_net.specs.Nets.{NetLists}
use Rattle.teg_net.specs.Parts.{IsPlaceOfPart, to_of}
use Rattle.policy_rounds.specs.Policies.{Enters, first_id}
use Rattle.policy_rounds.specs.PolicyLists.{policy_of}

pub record LowestFrom (net : NetLists) (parts : List ℕ) (part : ℕ) (ps : List PlaceId) (i : ℕ) : Type 0 where
  pub count : length ps ≡ length parts
  pub found : (t : ℕ) (p : PlaceId) → i ≤ p.index → Enters net parts part t p → Enters net parts part t (policy_of ps t) × ((policy_of ps t).index ≤ p.index)
  pub others : (t : ℕ) → ((p : PlaceId) → Enters net parts part t p → ⊥) → policy_of ps t ≡ first_id

pub lowest_taken : (net : NetLists) (parts : List ℕ) (part : ℕ) (ps : List PlaceId) (i : ℕ) (p : PlaceId)
    → LowestFrom net parts part ps (i + 1) → p.index ≡ i → IsPlaceOfPart net parts part p → LowestFrom net parts part (set ps (to_of net p) p) i
lowest_taken net parts part ps i p h e inside =
    let u : ℕ = to_of net p in
    let u_in : u < length ps = let m = inside.to_member.in_range in let k = h.count in omega arith in
    let mine : policy_of (set ps u p) u ≡ p = get_or-set_same ps u p first_id u_in in
    record {
      count = length-set ps u p ∙ h.count;
      found = λ t q l n.
          ⊎_elim
          (λ (s : t ≡ u).
          let is : policy_of (set ps u p) t ≡ p = ap (policy_of (set ps u p)) s ∙ mine in
          rw is (record { inside = inside; ends = sym s }, omega arith))
          (λ (s : t ≢ u).
          let same : policy_of (set ps u p) t ≡ policy_of ps t = get_or-set_other ps u t p first_id s in
          let apart : q.index ≢ i = λ (z : q.index ≡ i). s (sym n.ends ∙ ap (λ (x : ℕ). let r : PlaceId = record { index = x } in to_of net r) (z ∙ sym e)) in
          rw same (h.found t q (omega arith) n))
          (cases_eq t u);
      others = λ t n.
          let s : t ≢ u = λ (z : t ≡ u). n p (record { inside = inside; ends = sym z }) in
          get_or-set_other ps u t p first_id s ∙ h.others t n;
    }
