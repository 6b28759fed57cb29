-- The two loops of `settle`: potentials given by following the policy, and then by routing.
use Rattle.std.proofs.Common.{ℕ, zero, suc, ◌+◌, ◌*◌, ◌<◌, ◌≤◌, ◌≡◌, ◌≢◌, List, [], ◌∷◌, ◌++◌, Option, Some, None, is_some, cond, length, get_or, set}
use Rattle.std.proofs.Common.{take, refl, sym, ap, subst, ◌∙◌, arith, rules, inl, inr, ⊎_elim}
use Rattle.std.specs.Prelude.{ℤ, pos, ◌+ℤ◌, All, Any, IsSome, ◌⊎◌}
use Rattle.std.proofs.lemmas.Int.{ints}
use Rattle.std.proofs.lemmas.Bool.{cases_eq, cases_lt}
use Rattle.std.proofs.lemmas.List.{length-set, get_or-set_same, get_or-set_other, get_or_default, length_push, get_or_push, get_or_append_left, take-append-le}
use Rattle.std.proofs.Math.Seq.{take-length}
use Rattle.std.proofs.lemmas.List.Sums.{sum_by-set, count_by-le-length}
use Rattle.std.proofs.lemmas.List.Elements.{All-tail, All-cons}
use Rattle.teg_net.proofs.PathLaws.{IsPathBetween-append}
use Rattle.teg_net.specs.declared.entries.PlaceId.{PlaceId}
use Rattle.teg_net.specs.Nets.{NetLists, IsNet, IsPlaceOf}
use Rattle.teg_net.specs.Circuits.{place_at, no_place, IsPathBetween, from_of}
use Rattle.teg_net.specs.Ratios.{Fraction}
use Rattle.teg_parts.specs.Partitions.{AreStrong}
use Rattle.teg_net.specs.Parts.{IsMember, IsPlaceOfPart, Reaches, to_of}
use Rattle.policy_rounds.specs.Policies.{Policy, IsPolicy, step_back, LeadsBack, first_id, IsRouted, Joins, JoinsNext, IsRouting, AreSums, offer_of}
use Rattle.teg_net.specs.ReducedTimes.{reduced_time, IsMagnitudeWithin}
use Rattle.teg_net.specs.Limits.{greatest_scaled_potential}
use Rattle.teg_howard.specs.FoundCircuits.{value_or_zero, value_held, potentials, IsFollower, AreRouted}
use Rattle.policy_rounds.specs.PolicyLists.{IsCircuitRatio, policy_of, step_bound}
use Rattle.teg_howard.specs.Following.{filled, HasRootAlone, Valued, Followed}
use Rattle.teg_howard.proofs.NextJoins.{IsJoin, IsNextJoin}
use Rattle.policy_rounds.proofs.Back.{back_add}
use Rattle.policy_rounds.proofs.StepBounds.{count_small, within_sum}

pub cases_option : (o : Option ℤ) → (o ≡ None) ⊎ ((z : ℤ) × (o ≡ Some z))
cases_option None = inl refl
cases_option (Some z) = inr (z, refl)

pub some_of : (o : Option ℤ) → o ≢ None → IsSome o
some_of None n = absurd (n refl)
some_of (Some z) n = search rules

pub some_apart : (o : Option ℤ) (z : ℤ) → o ≡ Some z → o ≢ None
some_apart o z e n = cc

filled_more : (vs : List (Option ℤ)) (t : ℕ) (z : ℤ) → t < length vs → value_held vs t ≡ None → filled (set vs t (Some z)) ≡ filled vs + 1
filled_more vs t z l e =
    let s = sum_by-set (λ (o : Option ℤ). cond (is_some o) 1 0) vs t (Some z) None l in
    let n : cond (is_some (value_held vs t)) 1 0 ≡ 0 = ap (λ (o : Option ℤ). let r : ℕ = cond (is_some o) 1 0 in r) e in
    omega (arith, s, n)

pub within_more : (k : ℕ) (y : ℤ) → IsMagnitudeWithin (k * step_bound) y → IsMagnitudeWithin ((k + 1) * step_bound) y
within_more k y g =
    let c = g.low in
    let d = g.high in
    record { low = omega (arith, ints); high = omega (arith, ints) }

-- a member gets the value that a place offers it
pub valued_more :
    (net : NetLists) (parts : List ℕ) (part a b s : ℕ) (π σ : Policy) (vs : List (Option ℤ)) (t : ℕ) (p : PlaceId) (y : ℤ)
    → Valued net parts part a b s π vs → IsMember parts part t → value_held vs t ≡ None → value_held vs (from_of net p) ≡ Some y → σ t ≡ p → ((u : ℕ) → u ≢ t → σ u ≡ π u)
    → IsMagnitudeWithin step_bound (reduced_time net a b p) → Valued net parts part a b s σ (set vs t (Some (reduced_time net a b p +ℤ y)))
valued_more net parts part a b s π σ vs t p y h m none starts mine same small =
    let new : ℤ = reduced_time net a b p +ℤ y in
    let t_in : t < length vs = let r = m.in_range in let k = h.count in omega arith in
    let more = filled_more vs t new t_in none in
    let here : value_held (set vs t (Some new)) t ≡ Some new = get_or-set_same vs t (Some new) None t_in in
    let there = λ (u : ℕ) (ne : u ≢ t). get_or-set_other vs t u (Some new) None ne in
    let apart = λ (u : ℕ) (z : ℤ) (e : value_held vs u ≡ Some z). let r : u ≢ t = λ (q : u ≡ t). let w = ap (value_held vs) q in cc in r in
    record {
      count = length-set vs t (Some new) ∙ h.count;
      start = there s (apart s (pos 0) h.start) ∙ h.start;
      members = λ u z e. ⊎_elim (λ (q : u ≡ t). subst (IsMember parts part) (sym q) m) (λ (q : u ≢ t). h.members u z (sym (there u q) ∙ e)) (cases_eq u t);
      sums = λ u z e ne.
          ⊎_elim
          (λ (q : u ≡ t).
          let is : z ≡ new = let w = ap (value_held (set vs t (Some new))) q in cc in
          let place : σ u ≡ p = ap σ q ∙ mine in
          let from : from_of net (σ u) ≡ from_of net p = ap (from_of net) place in
          (y, ap (value_held (set vs t (Some new))) from ∙ (there (from_of net p) (apart (from_of net p) y starts) ∙ starts), is ∙ ap (λ x. reduced_time net a b x +ℤ y) (sym place)))
          (λ (q : u ≢ t).
          let old = h.sums u z (sym (there u q) ∙ e) ne in
          let place : σ u ≡ π u = same u q in
          let from : from_of net (σ u) ≡ from_of net (π u) = ap (from_of net) place in (
            old.0,
            ap (value_held (set vs t (Some new))) from
                ∙ (there (from_of net (π u)) (apart (from_of net (π u)) old.0 old.1) ∙ old.1),
            old.2 ∙ ap (λ x. reduced_time net a b x +ℤ old.0) (sym place),
          ))
          (cases_eq u t);
      small = λ u z e.
          rw more
          (⊎_elim
          (λ (q : u ≡ t).
          let is : z ≡ new = let w = ap (value_held (set vs t (Some new))) q in cc in
          subst (IsMagnitudeWithin ((filled vs + 1) * step_bound)) (sym is) (within_sum (filled vs) (reduced_time net a b p) y small (h.small (from_of net p) y starts)))
          (λ (q : u ≢ t). within_more (filled vs) z (h.small u z (sym (there u q) ∙ e)))
          (cases_eq u t));
    }

-- ---- following the policy
pub followed_more :
    (net : NetLists) (parts : List ℕ) (part a b s : ℕ) (π : Policy) (vs : List (Option ℤ)) (t : ℕ) (y : ℤ)
    → Followed net parts part a b s π vs → IsFollower net parts part π vs t → value_held vs (from_of net (π t)) ≡ Some y → IsMagnitudeWithin step_bound (reduced_time net a b (π t))
    → Followed net parts part a b s π (set vs t (Some (reduced_time net a b (π t) +ℤ y)))
followed_more net parts part a b s π vs t y h f e small =
    let new : ℤ = reduced_time net a b (π t) +ℤ y in
    record {
      valued = valued_more net parts part a b s π π vs t (π t) y h.valued f.member f.without e refl (λ u ne. refl) small;
      home = λ u z i.
          ⊎_elim
          (λ (q : u ≡ t).
          let before = h.home (from_of net (π t)) y e in
          subst (λ x. LeadsBack net π x s) (sym q) (before.0 + 1, sym (back_add net π before.0 1 t) ∙ before.1))
          (λ (q : u ≢ t). h.home u z (sym (get_or-set_other vs t u (Some new) None q) ∙ i))
          (cases_eq u t);
    }

pub followed_all :
    (net : NetLists) (parts : List ℕ) (part a b s : ℕ) (π : Policy) (ok : IsPolicy net parts part π) (vs : List (Option ℤ)) → Followed net parts part a b s π vs
    → ((t : ℕ) → IsFollower net parts part π vs t → ⊥) → (m t : ℕ) → IsMember parts part t → step_back net π m t ≡ s → value_held vs t ≢ None
followed_all net parts part a b s π ok vs h none zero t i e n = let w = ap (value_held vs) e in let z = h.valued.start in cc
followed_all net parts part a b s π ok vs h none (suc m) t i e n =
    let is : m + 1 ≡ suc m = omega arith in
    let shift : step_back net π m (from_of net (π t)) ≡ s = back_add net π m 1 t ∙ (ap (λ k. step_back net π k t) is ∙ e) in
    none t (record { member = i; without = n; starts = followed_all net parts part a b s π ok vs h none m (from_of net (π t)) (ok t i).inside.from_member shift })

-- ---- routing the others
pub record Routed (net : NetLists) (parts : List ℕ) (part a b s : ℕ) (first : Policy) (joins : List PlaceId) (π : Policy) (vs : List (Option ℤ)) : Type 0 where
  pub valued : Valued net parts part a b s π vs
  pub each : (k : ℕ) → k < length joins → JoinsNext net parts part first s (take k joins) (get_or joins k first_id)
  pub has : (t : ℕ) → IsMember parts part t → IsRouted net first s joins t → value_held vs t ≢ None
  pub had : (t : ℕ) (z : ℤ) → value_held vs t ≡ Some z → IsRouted net first s joins t
  pub joined : All (λ p. π (to_of net p) ≡ p) joins
  pub kept : (t : ℕ) → LeadsBack net first t s → π t ≡ first t
  pub outside : (t : ℕ) → (IsMember parts part t → ⊥) → π t ≡ first t

pub routed_none :
    (net : NetLists) (parts : List ℕ) (part a b s : ℕ) (π : Policy) (ok : IsPolicy net parts part π) (vs : List (Option ℤ)) → Followed net parts part a b s π vs
    → ((t : ℕ) → IsFollower net parts part π vs t → ⊥) → Routed net parts part a b s π [] π vs
routed_none net parts part a b s π ok vs h none = record {
  valued = h.valued;
  each = λ k l. absurd (omega arith);
  has = λ t i r. ⊎_elim (λ (w : LeadsBack net π t s). followed_all net parts part a b s π ok vs h none w.0 t i w.1) (λ (w : Any (λ p. to_of net p ≡ t) []). let l = w.2 in absurd (omega arith)) r;
  had = λ t z e. inl (h.home t z e);
  joined = λ k d l. absurd (omega arith);
  kept = λ t w. refl;
  outside = λ t w. refl;
}

routed_push : (net : NetLists) (first : Policy) (s : ℕ) (joins : List PlaceId) (p : PlaceId) (t : ℕ) → IsRouted net first s joins t → IsRouted net first s (joins ++ p ∷ []) t
routed_push net first s joins p t r =
    ⊎_elim
    (λ (w : LeadsBack net first t s). inl w)
    (λ (w : Any (λ q. to_of net q ≡ t) joins). let l = w.2 in let k = length_push joins p in inr (w.0, w.1, omega arith, get_or_append_left joins (p ∷ []) w.1 w.0 l ∙ w.3, w.4))
    r

take_whole : {A : Type 0} (xs ys : List A) → take (length xs) (xs ++ ys) ≡ xs
take_whole xs ys = take-append-le (length xs) xs ys (omega arith) ∙ take-length xs

pub routed_more :
    (net : NetLists) (parts : List ℕ) (part a b s : ℕ) (first : Policy) (joins : List PlaceId) (π σ : Policy) (vs : List (Option ℤ)) (p : PlaceId) (y : ℤ)
    → Routed net parts part a b s first joins π vs → IsJoin net parts part vs p → ((q : PlaceId) → IsJoin net parts part vs q → p.index ≤ q.index)
    → value_held vs (from_of net p) ≡ Some y → IsMagnitudeWithin step_bound (reduced_time net a b p) → σ (to_of net p) ≡ p → ((u : ℕ) → u ≢ to_of net p → σ u ≡ π u)
    → Routed net parts part a b s first (joins ++ p ∷ []) σ (set vs (to_of net p) (Some (reduced_time net a b p +ℤ y)))
routed_more net parts part a b s first joins π σ vs p y h j low e small mine same =
    let t : ℕ = to_of net p in
    let new : ℤ = reduced_time net a b p +ℤ y in
    let longer : List PlaceId = joins ++ p ∷ [] in
    let long : length longer ≡ length joins + 1 = length_push joins p in
    let t_in : t < length vs = let r = j.inside.to_member.in_range in let k = h.valued.count in omega arith in
    let not_routed : IsRouted net first s joins t → ⊥ = λ r. h.has t j.inside.to_member r j.without in
    let is_join = λ (q : PlaceId) (w : Joins net parts part first s joins q).
    let r : IsJoin net parts part vs q = record {
      inside = w.inside;
      starts = h.has (from_of net q) w.inside.from_member w.from_routed;
      without = ⊎_elim (λ (n : value_held vs (to_of net q) ≡ None). n)
          (λ (n : (z : ℤ) × (value_held vs (to_of net q) ≡ Some z)). absurd (w.to_unrouted (h.had (to_of net q) n.0 n.1)))
          (cases_option (value_held vs (to_of net q)));
    } in r in
    let next : JoinsNext net parts part first s joins p = record {
      joins_ = record { inside = j.inside; from_routed = h.had (from_of net p) y e; to_unrouted = not_routed };
      lowest = λ q w. low q (is_join q w);
    } in
    let here : value_held (set vs t (Some new)) t ≡ Some new = get_or-set_same vs t (Some new) None t_in in
    record {
      valued = valued_more net parts part a b s π σ vs t p y h.valued j.inside.to_member j.without e mine same small;
      each = λ k l.
          ⊎_elim
          (λ (q : k < length joins).
          let cut : take k longer ≡ take k joins = take-append-le k joins (p ∷ []) (omega arith) in
          let read : get_or longer k first_id ≡ get_or joins k first_id = get_or_append_left joins (p ∷ []) first_id k q in
          rw (cut, read) (h.each k q))
          (λ (q : length joins ≤ k).
          let is : k ≡ length joins = omega arith in
          let cut : take (length joins) longer ≡ joins = take_whole joins (p ∷ []) in
          let read : get_or longer (length joins) first_id ≡ p = get_or_push joins p first_id (length joins) refl in
          rw (is, cut, read) next)
          (cases_lt k (length joins));
      has = λ u i r n.
          ⊎_elim
          (λ (q : u ≡ t). let w = ap (value_held (set vs t (Some new))) q in cc)
          (λ (q : u ≢ t).
          let old : value_held vs u ≡ None = sym (get_or-set_other vs t u (Some new) None q) ∙ n in
          ⊎_elim
          (λ (w : LeadsBack net first u s). h.has u i (inl w) old)
          (λ (w : Any (λ x. to_of net x ≡ u) longer).
          let l = w.2 in
          ⊎_elim
          (λ (k : w.0 < length joins). h.has u i (inr (w.0, w.1, k, sym (get_or_append_left joins (p ∷ []) w.1 w.0 k) ∙ w.3, w.4)) old)
          (λ (k : length joins ≤ w.0).
          let is : length joins ≡ w.0 = omega arith in
          let x_is : p ≡ w.1 = sym (get_or_push joins p w.1 w.0 is) ∙ w.3 in
          q (sym w.4 ∙ ap (to_of net) (sym x_is)))
          (cases_lt w.0 (length joins)))
          r)
          (cases_eq u t);
      had = λ u z i.
          ⊎_elim
          (λ (q : u ≡ t). inr (length joins, p, omega arith, get_or_push joins p p (length joins) refl, sym q))
          (λ (q : u ≢ t). routed_push net first s joins p u (h.had u z (sym (get_or-set_other vs t u (Some new) None q) ∙ i)))
          (cases_eq u t);
      joined = λ k d l.
          ⊎_elim
          (λ (q : k < length joins).
          let x : PlaceId = get_or joins k d in
          let read : get_or longer k d ≡ x = get_or_append_left joins (p ∷ []) d k q in
          let apart : to_of net x ≢ t = λ (z : to_of net x ≡ t). not_routed (inr (k, x, q, get_or_default joins k x d q, z)) in
          rw read (same (to_of net x) apart ∙ h.joined k d q))
          (λ (q : length joins ≤ k).
          let is : length joins ≡ k = omega arith in
          let read : get_or longer k d ≡ p = get_or_push joins p d k is in
          rw read mine)
          (cases_lt k (length joins));
      kept = λ u w.
          let apart : u ≢ t = λ (q : u ≡ t). not_routed (inl (subst (λ x. LeadsBack net first x s) q w)) in
          same u apart ∙ h.kept u w;
      outside = λ u out.
          let apart : u ≢ t = λ (q : u ≡ t). out (subst (IsMember parts part) (sym q) j.inside.to_member) in
          same u apart ∙ h.outside u out;
    }

-- ---- a part is strongly connected, so all members are routed
pub path_inside :
    (net : NetLists) (parts : List ℕ) (part : ℕ) → IsNet net → AreStrong net parts → (ps : List PlaceId) (s t : ℕ)
    → IsMember parts part s → IsMember parts part t → IsPathBetween net s ps t → All (IsPlaceOfPart net parts part) ps
path_inside net parts part kept strong [] s t hs ht l = λ i d m. absurd (omega arith)
path_inside net parts part kept strong (p ∷ ps) s t hs ht l =
    let there = strong.strong s t hs.in_range ht.in_range in
    let t_to_s : Reaches net t s = (there.0 (hs.here ∙ sym ht.here)).1 in
    let u : ℕ = to_of net p in
    let is : IsPlaceOf net (place_at net p) = kept.each_place p.index no_place l.0 in
    let u_in : u < length parts = let r = is.to_in in let k = strong.count in omega arith in
    let t_to_u : Reaches net t u = (t_to_s.0 ++ p ∷ [], IsPathBetween-append net t_to_s.0 (p ∷ []) t s u t_to_s.1 (l.0, l.1, refl)) in
    let same : get_or parts u 0 ≡ get_or parts t 0 = (strong.strong u t u_in ht.in_range).1 ((ps, l.2), t_to_u) in
    let hu : IsMember parts part u = record { in_range = u_in; here = same ∙ ht.here } in
    let from : IsMember parts part (from_of net p) = subst (IsMember parts part) (sym l.1) hs in
    All-cons (IsPlaceOfPart net parts part) p ps (record { in_range = l.0; from_member = from; to_member = hu }) (path_inside net parts part kept strong ps u t hu ht l.2)

pub spread :
    (net : NetLists) (parts : List ℕ) (part : ℕ) (vs : List (Option ℤ)) → ((p : PlaceId) → IsJoin net parts part vs p → ⊥)
    → (ps : List PlaceId) (s t : ℕ) → IsPathBetween net s ps t → All (IsPlaceOfPart net parts part) ps → value_held vs s ≢ None → value_held vs t ≢ None
spread net parts part vs none [] s t l h v = subst (λ x. value_held vs x ≢ None) l v
spread net parts part vs none (p ∷ ps) s t l h v =
    let from : value_held vs (from_of net p) ≢ None = subst (λ x. value_held vs x ≢ None) (sym l.1) v in
    spread net parts part vs none ps (to_of net p) t l.2 (All-tail (IsPlaceOfPart net parts part) p ps h)
    (λ n. none p (record { inside = h 0 p (omega arith); starts = from; without = n }))

pub all_valued :
    (net : NetLists) (parts : List ℕ) (part : ℕ) → IsNet net → AreStrong net parts → (vs : List (Option ℤ)) (s : ℕ) → IsMember parts part s → value_held vs s ≢ None
    → ((p : PlaceId) → IsJoin net parts part vs p → ⊥) → (t : ℕ) → IsMember parts part t → value_held vs t ≢ None
all_valued net parts part kept strong vs s hs v none t ht =
    let path : Reaches net s t = ((strong.strong s t hs.in_range ht.in_range).0 (hs.here ∙ sym ht.here)).0 in
    spread net parts part vs none path.0 s t path.1 (path_inside net parts part kept strong path.0 s t hs ht path.1) v

-- the sums of a list of values are the potentials
pub valued_sums : (net : NetLists) (parts : List ℕ) (part a b s : ℕ) (π : Policy) (vs : List (Option ℤ)) → Valued net parts part a b s π vs → ((t : ℕ) → IsMember parts part t → value_held vs t ≢ None)
    → AreSums net parts part a b π s (λ t. value_or_zero (value_held vs t))
valued_sums net parts part a b s π vs h all = record {
  start = ap value_or_zero h.start;
  others = λ t i ne.
      ⊎_elim
      (λ (n : value_held vs t ≡ None). absurd (all t i n))
      (λ (w : (z : ℤ) × (value_held vs t ≡ Some z)).
      let e = h.sums t w.0 w.1 ne in
      ap value_or_zero w.1 ∙ (e.2 ∙ ap (λ x. reduced_time net a b (π t) +ℤ x) (sym (ap value_or_zero e.1))))
      (cases_option (value_held vs t));
}

pub routed_routing : (net : NetLists) (parts : List ℕ) (part a b s : ℕ) (first : Policy) (joins : List PlaceId) (π : Policy)
    (vs : List (Option ℤ)) → Routed net parts part a b s first joins π vs → ((t : ℕ) → IsMember parts part t → value_held vs t ≢ None)
    → IsRouting net parts part first s joins π
routed_routing net parts part a b s first joins π vs h all = record {
  each = h.each;
  all = λ t i. ⊎_elim (λ (n : value_held vs t ≡ None). absurd (all t i n)) (λ (w : (z : ℤ) × (value_held vs t ≡ Some z)). h.had t w.0 w.1) (cases_option (value_held vs t));
  kept = λ t i w. h.kept t w;
  joined = h.joined;
}

filled_in : (vs : List (Option ℤ)) → length vs ≤ 400 → filled vs * step_bound ≤ 160000000000000000
filled_in vs l = omega (arith, count_by-le-length is_some vs)

pub all_within : (net : NetLists) (parts : List ℕ) (part a b s : ℕ) (π : Policy) (vs : List (Option ℤ))
    → Valued net parts part a b s π vs → length vs ≤ 400 → (t : ℕ) (z : ℤ) → value_held vs t ≡ Some z → IsMagnitudeWithin greatest_scaled_potential z
all_within net parts part a b s π vs h l t z e =
    let w = h.small t z e in
    let low = w.low in
    let high = w.high in
    let f = filled_in vs l in
    record { low = omega (arith, ints); high = omega (arith, ints) }

pub held_within : (vs : List (Option ℤ)) (t : ℕ) → ((z : ℤ) → value_held vs t ≡ Some z → IsMagnitudeWithin greatest_scaled_potential z)
    → IsMagnitudeWithin greatest_scaled_potential (value_or_zero (value_held vs t))
held_within vs t h =
    ⊎_elim
    (λ (n : value_held vs t ≡ None). subst (IsMagnitudeWithin greatest_scaled_potential) (sym (ap value_or_zero n)) (record { low = omega (arith, ints); high = omega (arith, ints) }))
    (λ (w : (z : ℤ) × (value_held vs t ≡ Some z)). subst (IsMagnitudeWithin greatest_scaled_potential) (sym (ap value_or_zero w.1)) (h w.0 w.1))
    (cases_option (value_held vs t))

-- only the root has a value
pub followed_start : (net : NetLists) (parts : List ℕ) (part a b s : ℕ) (π : Policy) (vs : List (Option ℤ)) → IsMember parts part s
    → HasRootAlone (length parts) s vs → Followed net parts part a b s π vs
followed_start net parts part a b s π vs m h =
    let only = λ (t : ℕ) (z : ℤ) (e : value_held vs t ≡ Some z).
    let r : t ≡ s = ⊎_elim (λ (q : t ≡ s). q) (λ (q : t ≢ s). let n = h.others t q in cc) (cases_eq t s) in r in
    record {
      valued = record {
        count = h.all;
        start = h.start;
        members = λ t z e. subst (IsMember parts part) (sym (only t z e)) m;
        sums = λ t z e ne. absurd (ne (only t z e));
        small = λ t z e.
            let w = ap (value_held vs) (only t z e) in
            let start = h.start in
            let zero_is : z ≡ pos 0 = cc in
            rw zero_is (record { low = omega (arith, ints); high = omega (arith, ints) });
      };
      home = λ t z e. (0, only t z e);
    }

-- a value is what it counts as
value_is : (vs : List (Option ℤ)) (t : ℕ) → value_held vs t ≢ None → value_held vs t ≡ Some (potentials vs t)
value_is vs t n =
    ⊎_elim
    (λ (e : value_held vs t ≡ None). absurd (n e))
    (λ (w : (z : ℤ) × (value_held vs t ≡ Some z)). w.1 ∙ ap (λ x. Some x) (sym (ap value_or_zero w.1)))
    (cases_option (value_held vs t))

pub follow_step :
    (net : NetLists) (parts : List ℕ) (part s : ℕ) (r : Fraction) (π : Policy) (vs : List (Option ℤ)) (t : ℕ) (offered : ℤ) → IsNet net → IsCircuitRatio r → IsPolicy net parts part π
    → Followed net parts part r.time r.tokens s π vs → IsFollower net parts part π vs t → offered ≡ offer_of net r.time r.tokens (potentials vs) (π t)
    → Followed net parts part r.time r.tokens s π (set vs t (Some offered))
follow_step net parts part s r π vs t offered kept small ok h f o =
    let is = (ok t f.member).inside.in_range in
    let x : ℕ = from_of net (π t) in
    rw o (followed_more net parts part r.time r.tokens s π vs t (potentials vs x) h f (value_is vs x f.starts) (count_small net r (π t) kept small is))

pub route_step :
    (net : NetLists) (parts : List ℕ) (part s : ℕ) (r : Fraction) (first : Policy) (joins : List PlaceId) (ps : List PlaceId)
    (vs : List (Option ℤ)) (p : PlaceId) (offered : ℤ) → IsNet net → IsCircuitRatio r → length ps ≡ length parts
    → Routed net parts part r.time r.tokens s first joins (policy_of ps) vs → IsNextJoin net parts part vs p → offered ≡ offer_of net r.time r.tokens (potentials vs) p
    → Routed net parts part r.time r.tokens s first (joins ++ p ∷ []) (policy_of (set ps (to_of net p) p)) (set vs (to_of net p) (Some offered))
route_step net parts part s r first joins ps vs p offered kept small count h n o =
    let t : ℕ = to_of net p in
    let j = n.join in
    let x : ℕ = from_of net p in
    let t_in : t < length ps = let m = j.inside.to_member.in_range in omega arith in
    rw o (routed_more net parts part r.time r.tokens s first joins (policy_of ps) (policy_of (set ps t p)) vs p
    (potentials vs x) h j n.lowest (value_is vs x j.starts) (count_small net r p kept small j.inside.in_range)
    (get_or-set_same ps t p first_id t_in) (λ u ne. get_or-set_other ps t u p first_id ne))

-- each value keeps its bound
pub held_at : (net : NetLists) (parts : List ℕ) (part a b s : ℕ) (π : Policy) (vs : List (Option ℤ)) → Valued net parts part a b s π vs
    → length parts ≤ 400 → (t : ℕ) → IsMagnitudeWithin greatest_scaled_potential (potentials vs t)
held_at net parts part a b s π vs h l t = held_within vs t (λ z e. all_within net parts part a b s π vs h (let k = h.count in omega arith) t z e)

pub only_members : (net : NetLists) (parts : List ℕ) (part a b s : ℕ) (π : Policy) (vs : List (Option ℤ))
    → Valued net parts part a b s π vs → (t : ℕ) → (IsMember parts part t → ⊥) → value_held vs t ≡ None
only_members net parts part a b s π vs h t out = ⊎_elim (λ (n : value_held vs t ≡ None). n)
    (λ (w : (z : ℤ) × (value_held vs t ≡ Some z)). absurd (out (h.members t w.0 w.1))) (cases_option (value_held vs t))

-- where no place joins any more, all members are routed
pub routed_all :
    (net : NetLists) (parts : List ℕ) (part : ℕ) → IsNet net → AreStrong net parts → (s : ℕ) → IsMember parts part s
    → (policy ps : List PlaceId) (r : Fraction) (joins : List PlaceId) (vs : List (Option ℤ)) → All (λ p. p.index < length net.places) ps
    → Routed net parts part r.time r.tokens s (policy_of policy) joins (policy_of ps) vs → ((p : PlaceId) → IsJoin net parts part vs p → ⊥) → AreRouted net parts part policy ps r s vs
routed_all net parts part kept strong s m policy ps r joins vs in_range h none =
    let all = all_valued net parts part kept strong vs s m (some_apart _ _ h.valued.start) none in
    let few = kept.few_transitions in
    let short : length vs ≤ 400 = omega (arith, h.valued.count, strong.count) in
    record {
      routing = (joins, routed_routing net parts part r.time r.tokens s (policy_of policy) joins (policy_of ps) vs h all);
      sums = valued_sums net parts part r.time r.tokens s (policy_of ps) vs h.valued all;
      outside = h.outside;
      in_range = in_range;
      count = h.valued.count;
      has = all;
      only = λ t out. only_members net parts part r.time r.tokens s (policy_of ps) vs h.valued t out;
      within = λ t. held_within vs t (λ z e. all_within net parts part r.time r.tokens s (policy_of ps) vs h.valued short t z e);
    }
