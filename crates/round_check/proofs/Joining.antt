-- Members that lead back to the root, and those that places join to them one by one.
use Rattle.std.proofs.Common.{ℕ, zero, suc, ◌+◌, ◌-◌, ◌<◌, ◌≤◌, ◌≡◌, ◌≢◌, List, [], ◌∷◌, ◌++◌, Bool, true, false, length, get_or, set, take, refl, sym, ap, subst, ◌∙◌, arith, inl, inr, ⊎_elim}
use Rattle.std.specs.Prelude.{All, Any, ◌⊎◌}
use Rattle.std.proofs.lemmas.Bool.{cases_eq, cases_lt}
use Rattle.std.proofs.lemmas.List.{length-set, get_or-set_same, get_or-set_other, get_or_default, length_push, get_or_push, get_or_append_left, get_or-take, length-take-le, take_more_same, take-append-le}
use Rattle.std.proofs.Math.Seq.{take-length}
use Rattle.teg_net.specs.declared.entries.PlaceId.{PlaceId}
use Rattle.teg_net.specs.Nets.{NetLists}
use Rattle.teg_net.specs.Circuits.{from_of}
use Rattle.teg_net.specs.Parts.{IsMember, to_of}
use Rattle.teg_net.proofs.Reading.{same_id}
use Rattle.policy_rounds.specs.Policies.{Policy, IsPolicy, step_back, LeadsBack, first_id, IsRouted, Joins, JoinsNext, IsRouting}
use Rattle.teg_parts.specs.Components.{IsMarked}
use Rattle.policy_rounds.proofs.Back.{back_add, back_member}
use Rattle.policy_rounds.proofs.number_laws_proofs.Pigeons.{pigeons}
use Rattle.round_check.specs.Routes.{AreHome, AreMarked, IsNextMark, Leads}

-- who leads back to a transition at all does so in fewer steps than there are transitions
module _ (net : NetLists) (parts : List ℕ) (part : ℕ) (π : Policy) (ok : IsPolicy net parts part π) (t s : ℕ) (i : IsMember parts part t) where
  soon : (fuel m : ℕ) → m ≤ fuel → step_back net π m t ≡ s → (k : ℕ) × (k < length parts) × (step_back net π k t ≡ s)
  soon zero m few e = let r = i.in_range in (m, omega arith, e)
  soon (suc fuel) m few e =
      ⊎_elim
      (λ (l : m < length parts). (m, l, e))
      (λ (l : length parts ≤ m).
      let p = pigeons (length parts) (λ k. step_back net π k t) (λ k q. (back_member net parts part π ok k t i).in_range) in
      let a : ℕ = p.0 in
      let b : ℕ = p.1 in
      let up : a < b = p.2 in
      let near : b ≤ length parts = p.3 in
      let whole : (m - b) + b ≡ m = omega arith in
      let there : step_back net π (m - b) (step_back net π b t) ≡ s = back_add net π (m - b) b t ∙ (ap (λ x. step_back net π x t) whole ∙ e) in
      let early : step_back net π ((m - b) + a) t ≡ s = sym (back_add net π (m - b) a t) ∙ (ap (step_back net π (m - b)) p.4 ∙ there) in
      soon fuel ((m - b) + a) (omega arith) early)
      (cases_lt m (length parts))

  pub home_soon : LeadsBack net π t s → (k : ℕ) × (k < length parts) × (step_back net π k t ≡ s)
  home_soon h = soon h.0 h.0 (omega arith) h.1

-- marked are the members that lead back, and the ends of the places that joined them
pub record Joined (net : NetLists) (parts : List ℕ) (part : ℕ) (π : Policy) (root : ℕ) (js : List PlaceId) (ρ : Policy) (marks : List Bool) : Type 0 where
  pub count : length marks ≡ length parts
  pub each : (k : ℕ) → k < length js → JoinsNext net parts part π root (take k js) (get_or js k first_id)
  pub marked : (t : ℕ) → IsMarked marks t → IsRouted net π root js t
  pub routed : (t : ℕ) → IsMember parts part t → IsRouted net π root js t → IsMarked marks t
  pub joined : All (λ p. ρ (to_of net p) ≡ p) js

module _ (net : NetLists) (parts : List ℕ) (part : ℕ) (π : Policy) (root : ℕ) (ρ : Policy) where
  pub joined_none : (marks : List Bool) → length marks ≡ length parts → AreHome net parts part π root marks → Joined net parts part π root [] ρ marks
  joined_none marks count h = record {
    count = count;
    each = λ k l. absurd (omega arith);
    marked = λ t m. inl ((h t).0 m).1;
    routed = λ t i r. ⊎_elim (λ (w : LeadsBack net π t root). (h t).1 (i, w)) (λ (w : Any (λ p. to_of net p ≡ t) []). let l = w.2 in absurd (omega arith)) r;
    joined = λ k d l. absurd (omega arith);
  }

  routed_push : (js : List PlaceId) (p : PlaceId) (t : ℕ) → IsRouted net π root js t → IsRouted net π root (js ++ p ∷ []) t
  routed_push js p t r =
      ⊎_elim
      (λ (w : LeadsBack net π t root). inl w)
      (λ (w : Any (λ q. to_of net q ≡ t) js). let l = w.2 in let k = length_push js p in inr (w.0, w.1, omega arith, get_or_append_left js (p ∷ []) w.1 w.0 l ∙ w.3, w.4))
      r

  -- who is routed with one more place was so before, or is its end
  routed_last : (js : List PlaceId) (p : PlaceId) (t : ℕ) → IsRouted net π root (js ++ p ∷ []) t → IsRouted net π root js t ⊎ (t ≡ to_of net p)
  routed_last js p t r =
      ⊎_elim
      (λ (w : LeadsBack net π t root). inl (inl w))
      (λ (w : Any (λ q. to_of net q ≡ t) (js ++ p ∷ [])).
      let l = w.2 in
      let k = length_push js p in
      ⊎_elim
      (λ (q : w.0 < length js). inl (inr (w.0, w.1, q, sym (get_or_append_left js (p ∷ []) w.1 w.0 q) ∙ w.3, w.4)))
      (λ (q : length js ≤ w.0).
      let is : length js ≡ w.0 = omega arith in
      let x_is : p ≡ w.1 = sym (get_or_push js p w.1 w.0 is) ∙ w.3 in
      inr (sym w.4 ∙ ap (to_of net) (sym x_is)))
      (cases_lt w.0 (length js)))
      r

  take_whole : (xs ys : List PlaceId) → take (length xs) (xs ++ ys) ≡ xs
  take_whole xs ys = take-append-le (length xs) xs ys (omega arith) ∙ take-length xs

  -- a place that joins is one that leads on
  joins_lead : (js : List PlaceId) (marks : List Bool) → Joined net parts part π root js ρ marks → (q : PlaceId) → Joins net parts part π root js q → Leads net parts part marks q
  joins_lead js marks h q w = record {
    inside = w.inside;
    from_marked = h.routed (from_of net q) w.inside.from_member w.from_routed;
    to_unmarked = λ m. w.to_unrouted (h.marked (to_of net q) m);
  }

  joins_next : (js : List PlaceId) (marks : List Bool) (p : PlaceId) → Joined net parts part π root js ρ marks → IsNextMark net parts part marks p → JoinsNext net parts part π root js p
  joins_next js marks p h n =
      let j = n.leads in
      record {
        joins_ = record { inside = j.inside; from_routed = h.marked (from_of net p) j.from_marked; to_unrouted = λ r. j.to_unmarked (h.routed (to_of net p) j.inside.to_member r) };
        lowest = λ q w. n.lowest q (joins_lead js marks h q w);
      }

  pub joined_more : (js : List PlaceId) (marks : List Bool) (p : PlaceId) → Joined net parts part π root js ρ marks → IsNextMark net parts part marks p
      → ρ (to_of net p) ≡ p → Joined net parts part π root (js ++ p ∷ []) ρ (set marks (to_of net p) true)
  joined_more js marks p h n own =
      let t : ℕ = to_of net p in
      let j = n.leads in
      let longer : List PlaceId = js ++ p ∷ [] in
      let long : length longer ≡ length js + 1 = length_push js p in
      let t_in : t < length marks = let r = j.inside.to_member.in_range in let k = h.count in omega arith in
      let here : IsMarked (set marks t true) t = get_or-set_same marks t true false t_in in
      let there = λ (u : ℕ) (ne : u ≢ t). get_or-set_other marks t u true false ne in
      let next = joins_next js marks p h n in
      record {
        count = length-set marks t true ∙ h.count;
        each = λ k l.
            ⊎_elim
            (λ (q : k < length js).
            let cut : take k longer ≡ take k js = take-append-le k js (p ∷ []) (omega arith) in
            let read : get_or longer k first_id ≡ get_or js k first_id = get_or_append_left js (p ∷ []) first_id k q in
            rw (cut, read) (h.each k q))
            (λ (q : length js ≤ k).
            let is : k ≡ length js = omega arith in
            let cut : take (length js) longer ≡ js = take_whole js (p ∷ []) in
            let read : get_or longer (length js) first_id ≡ p = get_or_push js p first_id (length js) refl in
            rw (is, cut, read) next)
            (cases_lt k (length js));
        marked = λ u m.
            ⊎_elim
            (λ (q : u ≡ t). inr (length js, p, omega arith, get_or_push js p p (length js) refl, sym q))
            (λ (q : u ≢ t). routed_push js p u (h.marked u (sym (there u q) ∙ m)))
            (cases_eq u t);
        routed = λ u i r.
            ⊎_elim
            (λ (q : u ≡ t). subst (IsMarked (set marks t true)) (sym q) here)
            (λ (q : u ≢ t).
            ⊎_elim
            (λ (w : IsRouted net π root js u). there u q ∙ h.routed u i w)
            (λ (w : u ≡ t). absurd (q w))
            (routed_last js p u r))
            (cases_eq u t);
        joined = λ k d l.
            ⊎_elim
            (λ (q : k < length js).
            let read : get_or longer k d ≡ get_or js k d = get_or_append_left js (p ∷ []) d k q in
            subst (λ x. ρ (to_of net x) ≡ x) (sym read) (h.joined k d q))
            (λ (q : length js ≤ k).
            let is : length js ≡ k = omega arith in
            let read : get_or longer k d ≡ p = get_or_push js p d k is in
            subst (λ x. ρ (to_of net x) ≡ x) (sym read) own)
            (cases_lt k (length js));
      }

  pub joined_all : (js : List PlaceId) (marks : List Bool) → Joined net parts part π root js ρ marks → AreMarked parts part marks
      → ((t : ℕ) → IsMember parts part t → LeadsBack net π t root → ρ t ≡ π t) → IsRouting net parts part π root js ρ
  joined_all js marks h all kept = record {
    each = h.each;
    all = λ t i. h.marked t (all t i);
    kept = kept;
    joined = h.joined;
  }

  -- as many places as there are transitions have joined all members
  pub all_in_time : IsPolicy net parts part π → (js : List PlaceId) (marks : List Bool) → Joined net parts part π root js ρ marks → length js ≡ length parts → AreMarked parts part marks
  all_in_time ok js marks h full t i =
      let xs : List PlaceId = js ++ π t ∷ [] in
      let n : ℕ = length parts in
      let here : to_of net (π t) ≡ t = (ok t i).ends in
      let read = λ (k : ℕ) (l : k < n). let e : get_or xs k first_id ≡ get_or js k first_id = get_or_append_left js (π t ∷ []) first_id k (omega (arith, full, l)) in e in
      let last : get_or xs n first_id ≡ π t = get_or_push js (π t) first_id n full in
      let p = pigeons n (λ k. to_of net (get_or xs k first_id)) (λ k q.
      ⊎_elim
      (λ (l : k < n). rw (read k l) (h.each k (omega (arith, full, l))).joins_.inside.to_member.in_range)
      (λ (l : n ≤ k). let is : k ≡ n = omega arith in rw (is, last, here) i.in_range)
      (cases_lt k n)) in
      let a : ℕ = p.0 in
      let b : ℕ = p.1 in
      let up : a < b = p.2 in
      let near : b ≤ n = p.3 in
      let first : get_or xs a first_id ≡ get_or js a first_id = read a (omega arith) in
      let same : to_of net (get_or js a first_id) ≡ to_of net (get_or xs b first_id) = ap (to_of net) (sym first) ∙ p.4 in
      ⊎_elim
      (λ (l : b < n).
      let j = (h.each b (omega (arith, full, l))).joins_ in
      let found : get_or (take b js) a first_id ≡ get_or js a first_id = get_or-take b js a first_id up in
      let ends : to_of net (get_or js a first_id) ≡ to_of net (get_or js b first_id) = same ∙ ap (to_of net) (read b l) in
      let short : a < length (take b js) = omega (arith, length-take-le b js (omega (arith, full, l)), up) in
      absurd (j.to_unrouted (inr (a, get_or js a first_id, short, get_or_default (take b js) a (get_or js a first_id) first_id short ∙ found, ends))))
      (λ (l : n ≤ b).
      let is : b ≡ n = omega arith in
      let ends : to_of net (get_or js a first_id) ≡ t = same ∙ (ap (λ k. to_of net (get_or xs k first_id)) is ∙ (ap (to_of net) last ∙ here)) in
      let short : a < length js = omega (arith, full, up, near) in
      h.routed t i (inr (a, get_or js a first_id, short, get_or_default js a (get_or js a first_id) first_id short, ends)))
      (cases_lt b n)

  -- ---- where the policy is routed by places ks
  module _ (ks : List PlaceId) (r : IsRouting net parts part π root ks ρ) where
    -- what joins next is the next of them
    meets : (n : ℕ) (xs : List PlaceId) → xs ≡ take n ks → n ≤ length ks → (p : PlaceId) → JoinsNext net parts part π root xs p → (n < length ks) × (get_or ks n first_id ≡ p)
    meets n xs is few p mine =
        let t : ℕ = to_of net p in
        let more : n < length ks =
        ⊎_elim
        (λ (l : n < length ks). l)
        (λ (l : length ks ≤ n).
        let all : length ks ≡ n = omega arith in
        let whole : ks ≡ xs = sym (take-length ks) ∙ (ap (λ m. take m ks) all ∙ sym is) in
        absurd (mine.joins_.to_unrouted (subst (λ x. IsRouted net π root x t) whole (r.all t mine.joins_.inside.to_member))))
        (cases_lt n (length ks)) in
        let other : JoinsNext net parts part π root xs (get_or ks n first_id) = subst (λ x. JoinsNext net parts part π root x (get_or ks n first_id)) (sym is) (r.each n more) in
        let low = mine.lowest (get_or ks n first_id) other.joins_ in
        let high = other.lowest p mine.joins_ in
        (more, same_id (get_or ks n first_id) p (omega arith))

    -- those that joined are the first of them
    first_of : (js : List PlaceId) → ((k : ℕ) → k < length js → JoinsNext net parts part π root (take k js) (get_or js k first_id))
        → (n : ℕ) → n ≤ length js → (n ≤ length ks) × (take n js ≡ take n ks)
    first_of js each zero l = (omega arith, refl)
    first_of js each (suc n) l =
        let rest = first_of js each n (omega arith) in
        let in_js : n < length js = omega arith in
        let m = meets n (take n js) rest.1 rest.0 (get_or js n first_id) (each n in_js) in
        let e : n + 1 ≡ suc n = omega arith in
        let cut : take (n + 1) js ≡ take (n + 1) ks = take_more_same js ks n first_id in_js m.0 rest.1 (sym m.1) in
        (omega (arith, m.0), subst (λ x. take x js ≡ take x ks) e cut)

    -- all that joined, as the first of them
    all_of : (js : List PlaceId) (marks : List Bool) → Joined net parts part π root js ρ marks → (length js ≤ length ks) × (js ≡ take (length js) ks)
    all_of js marks h = let w = first_of js h.each (length js) (omega arith) in (w.0, sym (take-length js) ∙ w.1)

    pub next_own : (js : List PlaceId) (marks : List Bool) (p : PlaceId) → Joined net parts part π root js ρ marks → IsNextMark net parts part marks p → ρ (to_of net p) ≡ p
    next_own js marks p h n =
        let w = all_of js marks h in
        let m = meets (length js) js w.1 w.0 p (joins_next js marks p h n) in
        subst (λ q. ρ (to_of net q) ≡ q) m.1 (r.joined (length js) first_id m.0)

    -- where no place leads on, they have joined all members
    pub all_joined : (js : List PlaceId) (marks : List Bool) → Joined net parts part π root js ρ marks → ((p : PlaceId) → Leads net parts part marks p → ⊥) → AreMarked parts part marks
    all_joined js marks h none t i =
        let w = all_of js marks h in
        let long : length ks ≤ length js =
        ⊎_elim
        (λ (l : length js < length ks).
        let next = subst (λ x. JoinsNext net parts part π root x (get_or ks (length js) first_id)) (sym w.1) (r.each (length js) l) in
        absurd (none (get_or ks (length js) first_id) (joins_lead js marks h (get_or ks (length js) first_id) next.joins_)))
        (λ (l : length ks ≤ length js). l)
        (cases_lt (length js) (length ks)) in
        let is : length js ≡ length ks = omega (arith, w.0) in
        let same : ks ≡ js = sym (take-length ks) ∙ (ap (λ n. take n ks) (sym is) ∙ sym w.1) in
        h.routed t i (subst (λ x. IsRouted net π root x t) same (r.all t i))
