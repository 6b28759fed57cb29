-- A round, place by place.
use Rattle.std.proofs.Common.{ℕ, ℤ, ◌+◌, ◌<◌, ◌≤◌, ◌≡◌, ◌≢◌, List, [], ◌∷◌, ◌++◌, length, get_or, set, Option, Some, None, refl, sym, ap, subst, ◌∙◌, arith, ⊎_elim}
use Rattle.std.specs.Prelude.{◌≤ℤ◌}
use Rattle.std.proofs.lemmas.Int.{ints}
use Rattle.std.proofs.lemmas.Bool.{cases_lt, cases_eq}
use Rattle.std.proofs.lemmas.List.{length-append, length-set, get_or_append_left, get_or-append-add, get_or_past, get_or_read, get_or-set_same, get_or-set_other}
use Rattle.teg_net.specs.declared.entries.PlaceId.{PlaceId}
use Rattle.teg_net.specs.declared.entries.Place.{Place}
use Rattle.teg_net.specs.Nets.{NetLists, IsNet}
use Rattle.teg_net.specs.Ratios.{Fraction}
use Rattle.teg_net.specs.Circuits.{no_place, place_at}
use Rattle.teg_net.specs.Parts.{to_of}
use Rattle.teg_sizing.specs.declared.rounds.ValueCell.{ValueCell}
use Rattle.teg_sizing.specs.ValueRounds.{no_cell, value_told, by_at, IsAtLeast, IsOffered, AreFresh, IsTakenBy, IsRoundUpTo}
use Rattle.teg_sizing.proofs.Values.{same_some, none_some, at_least_is, at_least_less, between_them}

-- a place offers one value
pub one_offer : (net : NetLists) (r : Fraction) (e : PlaceId) (before : List ValueCell) (p : PlaceId) (u v : ℤ)
    → IsOffered r e before p (place_at net p) u → IsOffered r e before p (place_at net p) v → u ≡ v
one_offer net r e before p u v f g =
    let same : f.start ≡ g.start = same_some (value_told before (place_at net p).from.index) f.start g.start f.told g.told in
    let one = f.is in
    let two = g.is in
    omega (arith, ints)

-- past a place whose offer is told already, or that has none
pub round_past : (net : NetLists) (r : Fraction) (e : PlaceId) (before after : List ValueCell) (k : ℕ) → IsRoundUpTo net r e before k after
    → ((v : ℤ) → IsOffered r e before (record { index = k }) (place_at net (record { index = k })) v
    → IsAtLeast (value_told after (to_of net (record { index = k }))) v) → IsRoundUpTo net r e before (k + 1) after
round_past net r e before after k h told = record {
  count = h.count;
  kept = h.kept;
  each = λ p v l in' offered. ⊎_elim
      (λ (m : p.index < k). h.each p v m in' offered)
      (λ (m : k ≤ p.index).
      let same : p ≡ record { index = k } = ap (λ (z : ℕ). record { index = z }) (let is : p.index ≡ k = omega arith in is) in
      subst (λ (z : PlaceId). IsAtLeast (value_told after (to_of net z)) v) (sym same) (told v (subst (λ (z : PlaceId). IsOffered r e before z (place_at net z) v) same offered)))
      (cases_lt p.index k);
  same = h.same;
  by_place = h.by_place;
}

-- an offer that is more than what is told
pub round_taken : (net : NetLists) (r : Fraction) (e : PlaceId) (before after : List ValueCell) (k : ℕ) (v : ℤ) → IsRoundUpTo net r e before k after → k < length net.places
    → to_of net (record { index = k }) < length after → IsOffered r e before (record { index = k }) (place_at net (record { index = k })) v
    → (IsAtLeast (value_told after (to_of net (record { index = k }))) v → ⊥)
    → IsRoundUpTo net r e before (k + 1) (set after (to_of net (record { index = k })) (record { value = Some v; by = Some (record { index = k }) }))
round_taken net r e before after k v h in' to_in offered more =
    let id : PlaceId = record { index = k } in
    let to : ℕ = to_of net id in
    let cell : ValueCell = record { value = Some v; by = Some id } in
    let new : List ValueCell = set after to cell in
    let here : get_or new to no_cell ≡ cell = get_or-set_same after to cell no_cell to_in in
    let other : (t : ℕ) → t ≢ to → get_or new t no_cell ≡ get_or after t no_cell = λ t n. get_or-set_other after to t cell no_cell n in
    let told : value_told new to ≡ Some v = ap (λ (c : ValueCell). c.value) here in
    let higher : (t : ℕ) (u : ℤ) → IsAtLeast (value_told after t) u → IsAtLeast (value_told new t) u = λ t u up. (⊎_elim
    (λ (q : t ≡ to).
    let low : u ≤ℤ v = between_them (value_told after to) u v (subst (λ (z : ℕ). IsAtLeast (value_told after z) u) q up) more in
    subst (λ (z : ℕ). IsAtLeast (value_told new z) u) (sym q) (at_least_less (value_told new to) u v low (at_least_is (value_told new to) v told)))
    (λ (q : t ≢ to). subst (λ (z : Option ℤ). IsAtLeast z u) (sym (ap (λ (c : ValueCell). c.value) (other t q))) up)
    (cases_eq t to)) in
    record {
      count = length-set after to cell ∙ h.count;
      kept = λ t u was. higher t u (h.kept t u was);
      each = λ p u l p_in own. ⊎_elim
          (λ (m : p.index < k). higher (to_of net p) u (h.each p u m p_in own))
          (λ (m : k ≤ p.index).
          let same : p ≡ id = ap (λ (z : ℕ). record { index = z }) (let is : p.index ≡ k = omega arith in is) in
          let one : u ≡ v = one_offer net r e before id u v (subst (λ (z : PlaceId). IsOffered r e before z (place_at net z) u) same own) offered in
          subst (λ (z : PlaceId). IsAtLeast (value_told new (to_of net z)) u) (sym same) (at_least_is (value_told new to) u (told ∙ ap (λ (z : ℤ). Some z) (sym one))))
          (cases_lt p.index k);
      same = λ t none. ⊎_elim
          (λ (q : t ≡ to). absurd (none_some (by_at new t) id none (ap (λ (z : ℕ). by_at new z) q ∙ ap (λ (c : ValueCell). c.by) here)))
          (λ (q : t ≢ to). ap (λ (c : ValueCell). c.value) (other t q) ∙ h.same t (sym (ap (λ (c : ValueCell). c.by) (other t q)) ∙ none))
          (cases_eq t to);
      by_place = λ t p by. ⊎_elim
          (λ (q : t ≡ to).
          let is : p ≡ id = same_place p (sym by ∙ ap (λ (z : ℕ). by_at new z) q ∙ ap (λ (c : ValueCell). c.by) here) in
          let own : IsTakenBy net r e before new to id = record {
            in_range = in';
            to = refl;
            value = v;
            offered = offered;
            told = told;
            more = λ up. more (lifted up);
          } in
          subst (λ (z : ℕ). IsTakenBy net r e before new z p) (sym q) (subst (λ (z : PlaceId). IsTakenBy net r e before new to z) (sym is) own))
          (λ (q : t ≢ to).
          let old : IsTakenBy net r e before after t p = h.by_place t p (sym (ap (λ (c : ValueCell). c.by) (other t q)) ∙ by) in
          record { in_range = old.in_range; to = old.to; value = old.value; offered = old.offered; told = ap (λ (c : ValueCell). c.value) (other t q) ∙ old.told; more = old.more })
          (cases_eq t to);
    } where
      same_place : (p : PlaceId) → Some p ≡ Some (record { index = k }) → p ≡ record { index = k }
      same_place p q = cc

      lifted : IsAtLeast (value_told before (to_of net (record { index = k }))) v → IsAtLeast (value_told after (to_of net (record { index = k }))) v
      lifted up = from (value_told before (to_of net (record { index = k }))) refl up where
        from : (o : Option ℤ) → value_told before (to_of net (record { index = k })) ≡ o → IsAtLeast o v → IsAtLeast (value_told after (to_of net (record { index = k }))) v
        from None q up = absurd up
        from (Some u) q up = at_least_less (value_told after (to_of net (record { index = k }))) v u up (h.kept (to_of net (record { index = k })) u q)

-- ---- the values of a round, copied

pub record FreshUpTo (before cells : List ValueCell) (k : ℕ) : Type 0 where
  pub count : length cells ≡ k
  pub low : k ≤ length before
  pub same : (t : ℕ) → t < k → value_told cells t ≡ value_told before t
  pub by_none : (t : ℕ) → by_at cells t ≡ None

pub fresh_more : (before cells : List ValueCell) (k : ℕ) (cell : ValueCell) → FreshUpTo before cells k → k < length before
    → cell ≡ get_or before k cell → FreshUpTo before (cells ++ (record { value = cell.value; by = None } ∷ [])) (k + 1)
fresh_more before cells k cell h l is =
    let count = h.count in
    let new : ValueCell = record { value = cell.value; by = None } in
    let more : List ValueCell = cells ++ (new ∷ []) in
    let long = length-append cells (new ∷ []) in
    let z : k ≡ length cells + 0 = omega arith in
    let here : get_or more k no_cell ≡ new = ap (λ (i : ℕ). get_or more i no_cell) z ∙ get_or-append-add cells (new ∷ []) 0 no_cell in
    let told : cell ≡ get_or before k no_cell = get_or_read before k cell l is no_cell in
    record {
      count = omega arith;
      low = omega arith;
      same = λ t m. ⊎_elim
          (λ (q : t < k). ap (λ (c : ValueCell). c.value) (get_or_append_left cells (new ∷ []) no_cell t (omega arith)) ∙ h.same t q)
          (λ (q : k ≤ t). let e : t ≡ k = omega arith in rw e (ap (λ (c : ValueCell). c.value) here ∙ ap (λ (c : ValueCell). c.value) told))
          (cases_lt t k);
      by_none = λ t. ⊎_elim
          (λ (q : t < k). ap (λ (c : ValueCell). c.by) (get_or_append_left cells (new ∷ []) no_cell t (omega arith)) ∙ h.by_none t)
          (λ (q : k ≤ t). ⊎_elim
          (λ (m : t < k + 1). let e : t ≡ k = omega arith in rw e (ap (λ (c : ValueCell). c.by) here))
          (λ (m : k + 1 ≤ t). ap (λ (c : ValueCell). c.by) (get_or_past more t no_cell (omega arith)))
          (cases_lt t (k + 1)))
          (cases_lt t k);
    }

pub fresh_end : (before cells : List ValueCell) → FreshUpTo before cells (length before) → AreFresh before cells
fresh_end before cells h =
    let count = h.count in
    record {
      count = h.count;
      same = λ t. ⊎_elim
          (λ (l : t < length before). h.same t l)
          (λ (l : length before ≤ t). ap (λ (c : ValueCell). c.value) (get_or_past cells t no_cell (omega arith)) ∙ sym (ap (λ (c : ValueCell). c.value) (get_or_past before t no_cell l)))
          (cases_lt t (length before));
      by_none = h.by_none;
    }

-- ---- the place as the code reads it

end_in : (net : NetLists) (r : Fraction) (e : PlaceId) (before after : List ValueCell) (k j : ℕ) → IsNet net
    → length before ≡ length net.transitions → IsRoundUpTo net r e before j after → k < length net.places → to_of net (record { index = k }) < length after
end_in net r e before after k j ok long h l = let to_in = (ok.each_place k no_place l).to_in in let count = h.count in omega arith

pub taken_place : (net : NetLists) (r : Fraction) (e : PlaceId) (before after : List ValueCell) (k : ℕ) (q : Place) (v : ℤ)
    (cell : ValueCell) → IsNet net → length before ≡ length net.transitions → IsRoundUpTo net r e before k after → k < length net.places
    → q ≡ place_at net (record { index = k }) → IsOffered r e before (record { index = k }) q v → cell ≡ get_or after q.to.index cell → (IsAtLeast cell.value v → ⊥)
    → IsRoundUpTo net r e before (k + 1) (set after q.to.index (record { value = Some v; by = Some (record { index = k }) }))
taken_place net r e before after k q v cell ok long h l q_is offered cell_is more =
    let id : PlaceId = record { index = k } in
    let to : ℕ = to_of net id in
    let to_in = end_in net r e before after k k ok long h l in
    let to_is : q.to.index ≡ to = ap (λ (z : Place). z.to.index) q_is in
    let told : cell ≡ get_or after to no_cell = get_or_read after to cell to_in (cell_is ∙ ap (λ (z : ℕ). get_or after z cell) to_is) no_cell in
    subst (λ (z : ℕ). IsRoundUpTo net r e before (k + 1) (set after z (record { value = Some v; by = Some id }))) (sym to_is)
    (round_taken net r e before after k v h l to_in (subst (λ (z : Place). IsOffered r e before id z v) q_is offered) (λ up. more (subst (λ (z : ValueCell). IsAtLeast z.value v) (sym told) up)))

pub kept_place : (net : NetLists) (r : Fraction) (e : PlaceId) (before after : List ValueCell) (k : ℕ) (q : Place) (v : ℤ)
    (cell : ValueCell) → IsNet net → length before ≡ length net.transitions → IsRoundUpTo net r e before k after → k < length net.places
    → q ≡ place_at net (record { index = k }) → IsOffered r e before (record { index = k }) q v → cell ≡ get_or after q.to.index cell
    → IsAtLeast cell.value v → IsRoundUpTo net r e before (k + 1) after
kept_place net r e before after k q v cell ok long h l q_is offered cell_is less =
    let id : PlaceId = record { index = k } in
    let to : ℕ = to_of net id in
    let to_in = end_in net r e before after k k ok long h l in
    let to_is : q.to.index ≡ to = ap (λ (z : Place). z.to.index) q_is in
    let told : cell ≡ get_or after to no_cell = get_or_read after to cell to_in (cell_is ∙ ap (λ (z : ℕ). get_or after z cell) to_is) no_cell in
    round_past net r e before after k h (λ u own.
    let same : u ≡ v = one_offer net r e before id u v own (subst (λ (z : Place). IsOffered r e before id z v) q_is offered) in
    subst (IsAtLeast (value_told after to)) (sym same) (subst (λ (z : ValueCell). IsAtLeast z.value v) told less))

pub no_place_taken : (net : NetLists) (r : Fraction) (e : PlaceId) (before after : List ValueCell) (k : ℕ) (q : Place) → IsRoundUpTo net r e before k after
    → q ≡ place_at net (record { index = k }) → (k ≢ e.index → value_told before q.from.index ≡ None) → IsRoundUpTo net r e before (k + 1) after
no_place_taken net r e before after k q h q_is none = round_past net r e before after k h (λ u own.
    absurd (none_some (value_told before (place_at net (record { index = k })).from.index) own.start (ap (λ (z : Place). value_told before z.from.index) (sym q_is) ∙ none own.other) own.told))
