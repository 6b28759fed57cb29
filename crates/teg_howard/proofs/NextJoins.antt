-- Where a list of places first leaves each transition, and how the search for the next join goes on from there.
use Rattle.std.proofs.Common.{ℕ, ◌<◌, ◌≤◌, ◌≡◌, ◌≢◌, List, Option, Some, None, min, length, get_or, set, sym, ap, subst, ◌∙◌, arith, ⊎_elim}
use Rattle.std.specs.Prelude.{ℤ}
use Rattle.std.proofs.lemmas.Bool.{cases_eq, cases_lt}
use Rattle.std.proofs.lemmas.List.{get_or-set_same, get_or-set_other, get_or_default}
use Rattle.teg_net.specs.declared.entries.PlaceId.{PlaceId}
use Rattle.teg_net.specs.Nets.{NetLists}
use Rattle.teg_net.specs.Circuits.{from_of}
use Rattle.teg_net.specs.Parts.{IsPlaceOfPart, to_of}
use Rattle.policy_rounds.specs.Policies.{first_id}
use Rattle.teg_howard.specs.InnerPlaces.{ListsPlaces, IsFirstExit}
use Rattle.teg_howard.specs.FoundCircuits.{value_held, LeadsOn, NoneLeadsOn, IsFirstOn}

-- a place in the part from a transition with a value to one without
pub record IsJoin (net : NetLists) (parts : List ℕ) (part : ℕ) (values : List (Option ℤ)) (p : PlaceId) : Type 0 where
  pub inside : IsPlaceOfPart net parts part p
  pub starts : value_held values (from_of net p) ≢ None
  pub without : value_held values (to_of net p) ≡ None

-- the lowest numbered place in the part from a transition with a value to one without
pub record IsNextJoin (net : NetLists) (parts : List ℕ) (part : ℕ) (values : List (Option ℤ)) (p : PlaceId) : Type 0 where
  pub join : IsJoin net parts part values p
  pub lowest : (q : PlaceId) → IsJoin net parts part values q → p.index ≤ q.index

module _ (net : NetLists) (ids : List PlaceId) where
  abbrev start_at : ℕ → ℕ
  start_at k = from_of net (get_or ids k first_id)

  -- ---- the first places that leave each transition, found from the last place on
  -- the first from i on that leaves t
  pub record FirstFrom (i t rank : ℕ) : Type 0 where
    pub within : rank ≤ length ids
    pub leaves : rank < length ids → start_at rank ≡ t
    pub none_before : (k : ℕ) → i ≤ k → k < rank → start_at k ≢ t

  pub record ExitsFrom (exits : List ℕ) (i : ℕ) : Type 0 where
    pub count : length exits ≡ length net.transitions
    pub first : (t : ℕ) → t < length exits → FirstFrom i t (get_or exits t 0)

  -- ---- the search for the next join
  -- where a transition gets a value, only places that leave it can become joins
  pub none_before_next : (vs : List (Option ℤ)) (rank t exit : ℕ) (z : ℤ) → NoneLeadsOn net vs ids rank → t < length vs
      → IsFirstExit net ids t exit → NoneLeadsOn net (set vs t (Some z)) ids (min rank exit)
  none_before_next vs rank t exit z none l first k below leads =
      let x : ℕ = start_at k in
      let y : ℕ = to_of net (get_or ids k first_id) in
      let apart : x ≢ t = first.none_before k (omega arith) in
      let from : value_held (set vs t (Some z)) x ≡ value_held vs x = get_or-set_other vs t x (Some z) None apart in
      ⊎_elim
      (λ (q : y ≡ t).
      let there = ap (value_held (set vs t (Some z))) q in
      let here = get_or-set_same vs t (Some z) None l in
      let empty = leads.1 in
      let f : ⊥ = cc in
      f)
      (λ (q : y ≢ t). none k (omega arith) (λ e. leads.0 (from ∙ e), sym (get_or-set_other vs t y (Some z) None q) ∙ leads.1))
      (cases_eq y t)

  module _ (parts : List ℕ) (part : ℕ) (lists : ListsPlaces net parts part ids) (vs : List (Option ℤ)) where
    pub first_is_next : (rank : ℕ) → IsFirstOn net vs ids rank → IsNextJoin net parts part vs (get_or ids rank first_id)
    first_is_next rank h = record {
      join = record { inside = lists.only rank first_id h.in_list; starts = h.leads.0; without = h.leads.1 };
      lowest = λ q w.
          let at = lists.all q w.inside in
          let k = at.0 in
          let read : get_or ids k first_id ≡ q = get_or_default ids k first_id q at.1 ∙ at.2 in
          let number : (get_or ids k first_id).index ≡ q.index = ap (λ (x : PlaceId). let r : ℕ = x.index in r) read in
          ⊎_elim
          (λ (l : k < rank). absurd (h.none_before k l (subst (LeadsOn net vs) (sym read) (w.starts, w.without))))
          (λ (l : rank ≤ k).
          ⊎_elim
          (λ (m : rank < k). let less = lists.ordered rank k first_id m at.1 in omega arith)
          (λ (m : k ≤ rank). let e : k ≡ rank = omega arith in let one : (get_or ids k first_id).index ≡ (get_or ids rank first_id).index = ap (λ x. (get_or ids x first_id).index) e in omega arith)
          (cases_lt rank k))
          (cases_lt k rank);
    }

    pub none_is_join : NoneLeadsOn net vs ids (length ids) → (p : PlaceId) → IsJoin net parts part vs p → ⊥
    none_is_join none p w =
        let at = lists.all p w.inside in
        let read : get_or ids at.0 first_id ≡ p = get_or_default ids at.0 first_id p at.1 ∙ at.2 in
        none at.0 at.1 (subst (LeadsOn net vs) (sym read) (w.starts, w.without))
