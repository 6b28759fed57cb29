-- The loop of `improve`: the places below i have made their offers.
use Rattle.std.proofs.Common.{ℕ, ◌+◌, ◌<◌, ◌≤◌, ◌≡◌, ◌≢◌, List, Option, Bool, true, false, length, get_or, set, refl, sym, ap, subst, ◌∙◌, arith, inl, inr, ⊎_elim}
use Rattle.std.specs.Prelude.{ℤ, pos, ◌≤ℤ◌, ◌<ℤ◌, All, ◌⊎◌}
use Rattle.std.proofs.lemmas.Int.{ints}
use Rattle.std.proofs.lemmas.Bool.{cases_eq, cases_lt, cases_Bool}
use Rattle.std.proofs.lemmas.List.{length-set, get_or-set_same, get_or-set_other}
use Rattle.std.proofs.lemmas.List.Elements.{All-set}
use Rattle.teg_net.specs.declared.entries.PlaceId.{PlaceId}
use Rattle.teg_net.specs.Nets.{NetLists}
use Rattle.teg_net.specs.Ratios.{Fraction}
use Rattle.teg_net.specs.Parts.{IsPlaceOfPart, to_of}
use Rattle.policy_rounds.specs.Policies.{Policy, Enters, first_id, offer_of, Improves}
use Rattle.teg_howard.specs.FoundCircuits.{potentials, IsBar, IsBetterPolicy}
use Rattle.policy_rounds.specs.PolicyLists.{policy_of}
use Rattle.teg_net.proofs.Reading.{same_id}
use Rattle.teg_parts.specs.Components.{IsMarked}

-- the greatest offer to t so far, which the policy has taken
pub record Greatest (net : NetLists) (parts : List ℕ) (part a b : ℕ) (v : ℕ → ℤ) (t : ℕ) (p : PlaceId) (z : ℤ) (i : ℕ) : Type 0 where
  pub improves : Improves net parts part a b v t p
  pub value : z ≡ offer_of net a b v p
  pub before : p.index < i
  pub most : (q : PlaceId) → Enters net parts part t q → q.index < i → offer_of net a b v q ≤ℤ offer_of net a b v p
  pub lowest : (q : PlaceId) → Enters net parts part t q → q.index < i → offer_of net a b v q ≡ offer_of net a b v p → p.index ≤ q.index

pub record Improving (net : NetLists) (parts : List ℕ) (part a b : ℕ) (v : ℕ → ℤ) (first : Policy) (ps : List PlaceId) (gs : List ℤ) (cs : List Bool) (i : ℕ) : Type 0 where
  pub count : length ps ≡ length parts
  pub count_gs : length gs ≡ length parts
  pub count_cs : length cs ≡ length parts
  pub marked : (t : ℕ) → IsMarked cs t → Greatest net parts part a b v t (policy_of ps t) (get_or gs t (pos 0)) i
  pub same : (t : ℕ) → (IsMarked cs t → ⊥) → policy_of ps t ≡ first t
  pub low : (t : ℕ) → (IsMarked cs t → ⊥) → (q : PlaceId) → Enters net parts part t q → q.index < i → offer_of net a b v q ≤ℤ v t
  pub in_range : All (λ p. p.index < length net.places) ps

pub cases_marked : (cs : List Bool) (t : ℕ) → IsMarked cs t ⊎ (IsMarked cs t → ⊥)
cases_marked cs t = ⊎_elim (λ (e : get_or cs t false ≡ true). inl e) (λ (e : get_or cs t false ≡ false). inr (λ f. cc)) (cases_Bool (get_or cs t false))

-- no place has made its offer
pub improving_none : (net : NetLists) (parts : List ℕ) (part a b : ℕ) (v : ℕ → ℤ) (ps : List PlaceId) (gs : List ℤ) (cs : List Bool)
    (i : ℕ) → length ps ≡ length parts → length gs ≡ length parts → length cs ≡ length parts
    → ((t : ℕ) → IsMarked cs t → ⊥) → ((q : PlaceId) → IsPlaceOfPart net parts part q → q.index < i → ⊥)
    → All (λ p. p.index < length net.places) ps → Improving net parts part a b v (policy_of ps) ps gs cs i
improving_none net parts part a b v ps gs cs i count count_gs count_cs none first in_range = record {
  count = count;
  count_gs = count_gs;
  count_cs = count_cs;
  marked = λ t m. absurd (none t m);
  same = λ t m. refl;
  low = λ t m q n l. absurd (first q n.inside l);
  in_range = in_range;
}

module _ (net : NetLists) (parts : List ℕ) (part a b : ℕ) (v : ℕ → ℤ) (first : Policy) (ps : List PlaceId) (gs : List ℤ)
    (cs : List Bool) (i : ℕ) (h : Improving net parts part a b v first ps gs cs i) where
  -- a place at i enters only one transition
  at_i : (p q : PlaceId) (t : ℕ) → p.index ≡ i → Enters net parts part t q → q.index < i + 1 → (q.index < i) ⊎ (q ≡ p)
  at_i p q t e n l = ⊎_elim (λ (k : q.index < i). inl k) (λ (k : i ≤ q.index). inr (same_id q p (omega arith))) (cases_lt q.index i)

  -- no place of the part lies between
  pub improving_far : (j : ℕ) → i ≤ j → ((q : PlaceId) → IsPlaceOfPart net parts part q → q.index < j → q.index < i) → Improving net parts part a b v first ps gs cs j
  improving_far j le far = record {
    count = h.count;
    count_gs = h.count_gs;
    count_cs = h.count_cs;
    same = h.same;
    in_range = h.in_range;
    marked = λ t m. let g = h.marked t m in let k = g.before in record {
      improves = g.improves;
      value = g.value;
      before = omega arith;
      most = λ q n l. g.most q n (far q n.inside l);
      lowest = λ q n l. g.lowest q n (far q n.inside l);
    };
    low = λ t m q n l. h.low t m q n (far q n.inside l);
  }

  pub improving_keep : (p : PlaceId) (z : ℤ) → p.index ≡ i → IsBar v gs cs (to_of net p) z → offer_of net a b v p ≤ℤ z → Improving net parts part a b v first ps gs cs (i + 1)
  improving_keep p z e at le = record {
    count = h.count;
    count_gs = h.count_gs;
    count_cs = h.count_cs;
    same = h.same;
    in_range = h.in_range;
    marked = λ t m.
        let g = h.marked t m in
        let k = g.before in
        let value = g.value in
        record {
          improves = g.improves;
          value = g.value;
          before = omega arith;
          most = λ q n l.
              ⊎_elim
              (λ (r : q.index < i). g.most q n r)
              (λ (r : q ≡ p).
              let to : to_of net p ≡ t = ap (to_of net) (sym r) ∙ n.ends in
              let z_is : z ≡ get_or gs t (pos 0) = at.0 (subst (IsMarked cs) (sym to) m) ∙ ap (λ x. get_or gs x (pos 0)) to in
              let q_is : offer_of net a b v q ≡ offer_of net a b v p = ap (offer_of net a b v) r in
              omega (arith, ints, le, z_is, value, q_is))
              (at_i p q t e n l);
          lowest = λ q n l s.
              ⊎_elim
              (λ (r : q.index < i). g.lowest q n r s)
              (λ (r : q ≡ p). let is : q.index ≡ p.index = ap (λ (x : PlaceId). let y : ℕ = x.index in y) r in omega arith)
              (at_i p q t e n l);
        };
    low = λ t m q n l.
        ⊎_elim
        (λ (r : q.index < i). h.low t m q n r)
        (λ (r : q ≡ p).
        let to : to_of net p ≡ t = ap (to_of net) (sym r) ∙ n.ends in
        let z_is : z ≡ v t = at.1 (λ k. m (subst (IsMarked cs) to k)) ∙ ap v to in
        let q_is : offer_of net a b v q ≡ offer_of net a b v p = ap (offer_of net a b v) r in
        omega (arith, ints, le, z_is, q_is))
        (at_i p q t e n l);
  }

  pub improving_take : (p : PlaceId) (z : ℤ) → p.index ≡ i → IsPlaceOfPart net parts part p → IsBar v gs cs (to_of net p) z → z <ℤ offer_of net a b v p
      → Improving net parts part a b v first (set ps (to_of net p) p) (set gs (to_of net p) (offer_of net a b v p)) (set cs (to_of net p) true) (i + 1)
  improving_take p z e inside at less =
      let t : ℕ = to_of net p in
      let new : ℤ = offer_of net a b v p in
      let ps' = set ps t p in
      let gs' = set gs t new in
      let cs' = set cs t true in
      let t_in : t < length parts = inside.to_member.in_range in
      let ps_in : t < length ps = let k = h.count in omega arith in
      let gs_in : t < length gs = let k = h.count_gs in omega arith in
      let cs_in : t < length cs = let k = h.count_cs in omega arith in
      let p_at : policy_of ps' t ≡ p = get_or-set_same ps t p first_id ps_in in
      let g_at : get_or gs' t (pos 0) ≡ new = get_or-set_same gs t new (pos 0) gs_in in
      let c_at : IsMarked cs' t = get_or-set_same cs t true false cs_in in
      -- each earlier offer to t is less than the new one
      let less_than = λ (q : PlaceId) (n : Enters net parts part t q) (l : q.index < i).
      let r : offer_of net a b v q <ℤ new =
      ⊎_elim
      (λ (m : IsMarked cs t). let g = h.marked t m in let k = g.most q n l in let z_is = at.0 m in let value = g.value in omega (arith, ints))
      (λ (m : IsMarked cs t → ⊥). let k = h.low t m q n l in let z_is = at.1 m in omega (arith, ints))
      (cases_marked cs t) in r in
      let more : v t <ℤ new =
      ⊎_elim
      (λ (m : IsMarked cs t). let g = h.marked t m in let k = g.improves.more in let z_is = at.0 m in let value = g.value in omega (arith, ints))
      (λ (m : IsMarked cs t → ⊥). let z_is = at.1 m in omega (arith, ints))
      (cases_marked cs t) in
      let enters : Enters net parts part t p = record { inside = inside; ends = refl } in
      let mine : Greatest net parts part a b v t p new (i + 1) = record {
        improves = record { enters = enters; more = more };
        value = refl;
        before = omega arith;
        most = λ q n l. ⊎_elim (λ (r : q.index < i). let k = less_than q n r in omega (arith, ints))
            (λ (r : q ≡ p). let q_is : offer_of net a b v q ≡ new = ap (offer_of net a b v) r in omega (arith, ints)) (at_i p q t e n l);
        lowest = λ q n l s. ⊎_elim (λ (r : q.index < i). let k = less_than q n r in absurd (omega (arith, ints)))
            (λ (r : q ≡ p). let is : q.index ≡ p.index = ap (λ (x : PlaceId). let y : ℕ = x.index in y) r in omega arith) (at_i p q t e n l);
      } in
      let apart = λ (u : ℕ) (ne : u ≢ t) (q : PlaceId) (n : Enters net parts part u q) (l : q.index < i + 1).
      let r : q.index < i = ⊎_elim (λ (k : q.index < i). k) (λ (k : q ≡ p). absurd (ne (sym n.ends ∙ ap (to_of net) k))) (at_i p q u e n l) in r in
      let c_other = λ (u : ℕ) (ne : u ≢ t). get_or-set_other cs t u true false ne in
      let p_other = λ (u : ℕ) (ne : u ≢ t). get_or-set_other ps t u p first_id ne in
      let g_other = λ (u : ℕ) (ne : u ≢ t). get_or-set_other gs t u new (pos 0) ne in
      record {
        count = length-set ps t p ∙ h.count;
        count_gs = length-set gs t new ∙ h.count_gs;
        count_cs = length-set cs t true ∙ h.count_cs;
        marked = λ u m.
            ⊎_elim
            (λ (q : u ≡ t). subst (λ x. Greatest net parts part a b v x (policy_of ps' x) (get_or gs' x (pos 0)) (i + 1)) (sym q) (rw (p_at, g_at) mine))
            (λ (ne : u ≢ t).
            let g = h.marked u (sym (c_other u ne) ∙ m) in
            let k = g.before in
            rw (p_other u ne, g_other u ne) (record {
              improves = g.improves;
              value = g.value;
              before = omega arith;
              most = λ q n l. g.most q n (apart u ne q n l);
              lowest = λ q n l. g.lowest q n (apart u ne q n l);
            }))
            (cases_eq u t);
        same = λ u m.
            let ne : u ≢ t = λ (q : u ≡ t). m (subst (IsMarked cs') (sym q) c_at) in
            p_other u ne ∙ h.same u (λ k. m (c_other u ne ∙ k));
        low = λ u m q n l.
            let ne : u ≢ t = λ (r : u ≡ t). m (subst (IsMarked cs') (sym r) c_at) in
            h.low u (λ k. m (c_other u ne ∙ k)) q n (apart u ne q n l);
        in_range = All-set (λ q. q.index < length net.places) ps t p inside.in_range h.in_range;
      }

pub improving_all : (net : NetLists) (parts : List ℕ) (part : ℕ) (r : Fraction) (values : List (Option ℤ)) (policy ps : List PlaceId)
    (gs : List ℤ) (cs : List Bool) (n : ℕ) → length net.places ≤ n → Improving net parts part r.time r.tokens (potentials values) (policy_of policy) ps gs cs n
    → IsBetterPolicy net parts part r values policy ps cs
improving_all net parts part r values policy ps gs cs n long h =
    let in_all = λ (t : ℕ) (q : PlaceId) (e : Enters net parts part t q). let k = e.inside.in_range in let l : q.index < n = omega arith in l in
    let none = λ (t : ℕ) (m : IsMarked cs t → ⊥) (p : PlaceId) (i : Improves net parts part r.time r.tokens (potentials values) t p).
    let low = h.low t m p i.enters (in_all t p i.enters) in let more = i.more in let f : ⊥ = omega (arith, ints) in f in
    record {
      improves = record {
        taken = λ t k w.
            ⊎_elim
            (λ (m : IsMarked cs t).
            let g = h.marked t m in
            record { improves = g.improves; greatest = λ q e. g.most q e (in_all t q e); lowest = λ q e. g.lowest q e (in_all t q e) })
            (λ (m : IsMarked cs t → ⊥). absurd (none t m w.0 w.1))
            (cases_marked cs t);
        kept = λ t k no_one.
            h.same t (λ m. no_one (policy_of ps t) (h.marked t m).improves);
      };
      marks = λ t m. (h.marked t m).improves;
      rest = h.same;
      none = none;
      count = h.count_cs;
      in_range = h.in_range;
    }
