-- Components get the numbers of their parts in order.
use Rattle.std.proofs.Common.{ℕ, zero, suc, ◌+◌, ◌<◌, ◌≤◌, ◌≡◌, ◌≢◌, List, [], ◌∷◌, Option, Some, None, Bool, true, false, length, get_or, set, refl, sym, ap, subst, ◌∙◌, arith, inl, inr, ⊎_elim}
use Rattle.std.specs.Prelude.{◌⊎◌}
use Rattle.std.proofs.lemmas.Bool.{cases_eq, cases_lt, cases_Bool}
use Rattle.std.proofs.lemmas.List.{get_or_past, get_or_default, length-set, length-replicate}
use lib.ListN.{replicate}
use Rattle.teg_net.specs.declared.entries.PlaceId.{PlaceId}
use Rattle.teg_net.specs.Nets.{NetLists, IsNet}
use Rattle.teg_net.specs.Circuits.{no_place, from_of, IsPathBetween}
use Rattle.teg_net.specs.Parts.{Reaches, to_of}
use Rattle.teg_parts.specs.Partitions.{AreStrong, AreInOrder, AreParts}
use Rattle.teg_parts.specs.Components.{AreComponents}
use Rattle.teg_parts.specs.PartNumbers.{component_at, part_number, IsFree, IsFirstFree, IsGiven, IsAfter, MayBy, IsFirstOfPart, ArePartsNumbered, AllNumbered, AreInOrderOf, AreInnerMarks}
use Rattle.teg_parts.proofs.Marks.{false_not_true, unmarked, unmarked_less, flag_past, set_flag_before}
use Rattle.teg_parts.proofs.Reaching.{reaches_on, reaches_by}

pub cases_number : (o : Option ℕ) → (o ≡ None) ⊎ ((j : ℕ) × (o ≡ Some j))
cases_number None = inl refl
cases_number (Some j) = inr (j, refl)

pub none_not_some : (o : Option ℕ) (j : ℕ) → o ≡ None → o ≡ Some j → ⊥
none_not_some o j a b = cc

pub same_number : (o : Option ℕ) (i j : ℕ) → o ≡ Some i → o ≡ Some j → i ≡ j
same_number o i j a b = cc

pub number_in : (numbers : List (Option ℕ)) (t j : ℕ) → part_number numbers t ≡ Some j → t < length numbers
number_in numbers t j e =
    ⊎_elim
    (λ (l : t < length numbers). l)
    (λ (l : length numbers ≤ t). absurd (none_not_some (part_number numbers t) j (get_or_past numbers t None l) e))
    (cases_lt t (length numbers))

module _ (net : NetLists) (kept : IsNet net) (components : List ℕ) (comps : AreComponents net components) where
  abbrev comp : ℕ → ℕ
  comp t = component_at components t

  from_in : (p : PlaceId) → p.index < length net.places → from_of net p < length components
  from_in p l = let c = comps.count in let f = (kept.each_place p.index no_place l).from_in in omega arith

  to_in : (p : PlaceId) → p.index < length net.places → to_of net p < length components
  to_in p l = let c = comps.count in let f = (kept.each_place p.index no_place l).to_in in omega arith

  module _ (ns ns' : List (Option ℕ)) (k f : ℕ) (h : ArePartsNumbered net components ns k) (first : IsFirstFree net components ns f)
      (count : length ns' ≡ length ns) (g : IsGiven components ns ns' (component_at components f) k) where
    new_is : (t : ℕ) → t < length components → comp t ≡ comp f → part_number ns' t ≡ Some k
    new_is t l e = g.given t l e

    old_is : (t : ℕ) → comp t ≢ comp f → part_number ns' t ≡ part_number ns t
    old_is t n = g.kept t n

    in_new : (t j : ℕ) → part_number ns' t ≡ Some j → t < length components
    in_new t j e = let l = number_in ns' t j e in let c = h.count in omega arith

    in_old : (t j : ℕ) → part_number ns t ≡ Some j → t < length components
    in_old t j e = let l = number_in ns t j e in let c = h.count in omega arith

    -- a numbered transition is of another component
    numbered_apart : (t j : ℕ) → part_number ns t ≡ Some j → comp t ≢ comp f
    numbered_apart t j e c = none_not_some (part_number ns t) j (h.same t f (in_old t j e) first.free.in_range c ∙ first.free.unnumbered) e

    still : (t j : ℕ) → part_number ns t ≡ Some j → part_number ns' t ≡ Some j
    still t j e = old_is t (numbered_apart t j e) ∙ e

    -- a number is the new one, or was there
    split_number : (t j : ℕ) → part_number ns' t ≡ Some j → ((comp t ≡ comp f) × (j ≡ k)) ⊎ (part_number ns t ≡ Some j)
    split_number t j e =
        ⊎_elim
        (λ (q : comp t ≡ comp f). inl (q, same_number (part_number ns' t) j k e (new_is t (in_new t j e) q)))
        (λ (q : comp t ≢ comp f). inr (sym (old_is t q) ∙ e))
        (cases_eq (comp t) (comp f))

    may_before : (j u : ℕ) → j ≤ k → MayBy net components ns' j u → MayBy net components ns j u
    may_before j u l may w m r n =
        let x = may w m r n in
        let low = x.2 in
        ⊎_elim
        (λ (q : (comp w ≡ comp f) × (x.0 ≡ k)). let e = q.1 in absurd (omega arith))
        (λ (q : part_number ns w ≡ Some x.0). (x.0, q, x.2))
        (split_number w x.0 x.1)

    -- of the transitions that may take k, f is the lowest
    lowest_new : (u : ℕ) → u < length components → IsAfter ns' k u → MayBy net components ns' k u → f < u
    lowest_new u l after may =
        let other : comp u ≢ comp f = λ (e : comp u ≡ comp f). let z = after k (new_is u l e) in let r : ⊥ = absurd (omega arith) in r in
        let without : part_number ns u ≡ None =
        ⊎_elim
        (λ (q : part_number ns u ≡ None). q)
        (λ (q : (j : ℕ) × (part_number ns u ≡ Some j)). let a = after q.0 (still u q.0 q.1) in let b = h.below u q.0 q.1 in absurd (omega arith))
        (cases_number (part_number ns u)) in
        let free : IsFree net components ns u = record {
          in_range = l;
          unnumbered = without;
          unblocked = λ p b.
              let w : ℕ = from_of net p in
              let into : Reaches net (to_of net p) u = ((comps.strong (to_of net p) u (to_in p b.in_range) l).0 b.enters).0 in
              let x = may_before k u (omega arith) may w (from_in p b.in_range) (reaches_on net w (to_of net p) u (reaches_by net p b.in_range) into) b.other in
              none_not_some (part_number ns w) x.0 b.unnumbered x.1;
        } in
        ⊎_elim
        (λ (q : f < u). q)
        (λ (q : u ≤ f).
        ⊎_elim
        (λ (e : u ≡ f). absurd (other (ap comp e)))
        (λ (e : u ≢ f). absurd (first.first u (omega arith) free))
        (cases_eq u f))
        (cases_lt f u)

    pub numbered_more : ArePartsNumbered net components ns' (k + 1)
    numbered_more = record {
      count = count ∙ h.count;
      same = λ t u l m e.
          ⊎_elim
          (λ (q : comp t ≡ comp f). new_is t l q ∙ sym (new_is u m (sym e ∙ q)))
          (λ (q : comp t ≢ comp f). old_is t q ∙ (h.same t u l m e ∙ sym (old_is u (λ z. q (e ∙ z)))))
          (cases_eq (comp t) (comp f));
      apart = λ t u j a b.
          ⊎_elim
          (λ (q : (comp t ≡ comp f) × (j ≡ k)).
          ⊎_elim
          (λ (r : (comp u ≡ comp f) × (j ≡ k)). q.0 ∙ sym r.0)
          (λ (r : part_number ns u ≡ Some j). let l = h.below u j r in let e = q.1 in absurd (omega arith))
          (split_number u j b))
          (λ (q : part_number ns t ≡ Some j).
          ⊎_elim
          (λ (r : (comp u ≡ comp f) × (j ≡ k)). let l = h.below t j q in let e = r.1 in absurd (omega arith))
          (λ (r : part_number ns u ≡ Some j). h.apart t u j q r)
          (split_number u j b))
          (split_number t j a);
      below = λ t j e.
          ⊎_elim
          (λ (q : (comp t ≡ comp f) × (j ≡ k)). let s = q.1 in omega arith)
          (λ (q : part_number ns t ≡ Some j). let l = h.below t j q in omega arith)
          (split_number t j e);
      taken = λ j l.
          ⊎_elim
          (λ (q : j < k).
          let x = h.taken j q in (
            x.0,
            record {
              here = still x.0 j x.1.here;
              lower = λ u m after may. x.1.lower u m (λ i e. after i (still u i e)) (may_before j u (omega arith) may);
            },
          ))
          (λ (q : k ≤ j).
          let e : k ≡ j = omega arith in
          subst (λ y. (t : ℕ) × IsFirstOfPart net components ns' y t) e (f, record { here = new_is f first.free.in_range refl; lower = lowest_new }))
          (cases_lt j k);
      upstream = λ p j l e.
          ⊎_elim
          (λ (q : (comp (to_of net p) ≡ comp f) × (j ≡ k)).
          let s = q.1 in
          ⊎_elim
          (λ (r : comp (from_of net p) ≡ comp f). (k, new_is (from_of net p) (from_in p l) r, omega arith))
          (λ (r : comp (from_of net p) ≢ comp f).
          ⊎_elim
          (λ (z : part_number ns (from_of net p) ≡ None). absurd (first.free.unblocked p (record { in_range = l; enters = q.0; other = r; unnumbered = z })))
          (λ (z : (i : ℕ) × (part_number ns (from_of net p) ≡ Some i)). let b = h.below (from_of net p) z.0 z.1 in (z.0, still (from_of net p) z.0 z.1, omega arith))
          (cases_number (part_number ns (from_of net p))))
          (cases_eq (comp (from_of net p)) (comp f)))
          (λ (q : part_number ns (to_of net p) ≡ Some j). let x = h.upstream p j l q in (x.0, still (from_of net p) x.0 x.1, x.2))
          (split_number (to_of net p) j e);
    }

  -- where no transition is free, each has a number: otherwise another part without one lies upstream of it, and so on;
  -- marked are the parts that were passed, all of which the transition reaches
  all_from : (ns : List (Option ℕ)) → ((t : ℕ) → IsFree net components ns t → ⊥) → (m : ℕ) (seen : List Bool) → length seen ≡ length components → unmarked seen ≤ m
      → (t : ℕ) → t < length components → get_or seen (comp t) false ≡ false → ((u : ℕ) → u < length components → get_or seen (comp u) false ≡ true → Reaches net t u) → part_number ns t ≢ None
  all_from ns none zero seen long few t l new reached e = let b = comps.below t l in let less = unmarked_less seen (comp t) (omega arith) new in absurd (omega arith)
  all_from ns none (suc m) seen long few t l new reached e =
      let in_seen : comp t < length seen = let b = comps.below t l in omega arith in
      let seen' : List Bool = set seen (comp t) true in
      let less = unmarked_less seen (comp t) in_seen new in
      let from_t : (u : ℕ) → u < length components → get_or seen' (comp u) false ≡ true → Reaches net t u =
      (λ u k s.
      ⊎_elim
      (λ (q : comp u ≡ comp t). ((comps.strong t u l k).0 (sym q)).0)
      (λ (q : get_or seen (comp u) false ≡ true). reached u k q)
      (set_flag_before seen (comp t) (comp u) s)) in
      none t (record {
        in_range = l;
        unnumbered = e;
        unblocked = λ p b.
            let w : ℕ = from_of net p in
            let w_in : w < length components = from_in p b.in_range in
            let into : Reaches net (to_of net p) t = ((comps.strong (to_of net p) t (to_in p b.in_range) l).0 b.enters).0 in
            let up : Reaches net w t = reaches_on net w (to_of net p) t (reaches_by net p b.in_range) into in
            ⊎_elim
            (λ (s : get_or seen' (comp w) false ≡ true).
            let one : comp w ≡ comp t = (comps.strong w t w_in l).1 (up, from_t w w_in s) in
            b.other one)
            (λ (s : get_or seen' (comp w) false ≡ false).
            all_from ns none m seen' (length-set seen (comp t) true ∙ long) (omega arith) w w_in s (λ u k r. reaches_on net w t u up (from_t u k r)) b.unnumbered)
            (cases_Bool (get_or seen' (comp w) false));
      })

  pub all_numbered : (ns : List (Option ℕ)) → length ns ≡ length components → ((t : ℕ) → IsFree net components ns t → ⊥) → AllNumbered ns
  all_numbered ns count none t l =
      let n : ℕ = length components in
      all_from ns none (unmarked (replicate n false)) (replicate n false) (length-replicate n false) (omega arith) t (omega arith) (flag_past n (comp t))
      (λ u k s. absurd (false_not_true (get_or (replicate n false) (comp u) false) (flag_past n (comp u)) s))

  -- ---- the parts that come of it
  module _ (part_of : List ℕ) (k : ℕ) (o : AreInOrderOf net components part_of k) where
    abbrev part : ℕ → ℕ
    part t = get_or part_of t 0

    length_is : length part_of ≡ length components
    length_is = o.told.count ∙ o.numbered.count

    number_is : (t : ℕ) → t < length components → part_number o.numbers t ≡ Some (part t)
    number_is t l = let d = o.numbered.count in o.told.same t (omega arith)

    part_is : (t j : ℕ) → part_number o.numbers t ≡ Some j → part t ≡ j
    part_is t j e =
        let l = number_in o.numbers t j e in
        let c = o.numbered.count in
        same_number (part_number o.numbers t) (part t) j (number_is t (omega arith)) e

    one_component : (t u : ℕ) → t < length components → u < length components → part t ≡ part u → comp t ≡ comp u
    one_component t u l m e = o.numbered.apart t u (part u) (number_is t l ∙ ap (λ x. Some x) e) (number_is u m)

    never_fall : (p : PlaceId) → p.index < length net.places → part (from_of net p) ≤ part (to_of net p)
    never_fall p l =
        let x = o.numbered.upstream p (part (to_of net p)) l (number_is (to_of net p) (to_in p l)) in
        let e = part_is (from_of net p) x.0 x.1 in
        let low = x.2 in
        omega arith

    parts_along : (ps : List PlaceId) (a b : ℕ) → IsPathBetween net a ps b → part a ≤ part b
    parts_along [] a b h = let e : part a ≡ part b = ap part h in omega arith
    parts_along (p ∷ ps) a b h =
        let rest = parts_along ps (to_of net p) b h.2 in
        let here = never_fall p h.0 in
        let e : part (from_of net p) ≡ part a = ap part h.1 in
        omega arith

    strong : AreStrong net part_of
    strong = record {
      count = length_is ∙ comps.count;
      strong = λ t u l m.
          let c = length_is in
          let t_in : t < length components = omega arith in
          let u_in : u < length components = omega arith in (
            λ e. (comps.strong t u t_in u_in).0 (one_component t u t_in u_in e),
            λ r.
                let one : comp t ≡ comp u = (comps.strong t u t_in u_in).1 r in
                same_number (part_number o.numbers t) (part t) (part u) (number_is t t_in) (o.numbered.same t u t_in u_in one ∙ number_is u u_in),
          );
    }

    in_order : AreInOrder net part_of k
    in_order = record {
      may = λ j l t u m n r ne.
          let up = parts_along r.0 u t r.1 in
          let here = m.here in
          omega arith;
      lowest = λ i j l m may.
          let x = o.numbered.taken i (omega arith) in
          let t : ℕ = x.0 in
          let c = length_is in
          let d = o.numbered.count in
          let t_in = number_in o.numbers t i x.1.here in (
            t,
            record { in_range = omega arith; here = part_is t i x.1.here },
            λ u member.
                let u_in = member.in_range in
                let here = member.here in
                x.1.lower u (omega arith)
                (λ y e. let z = part_is u y e in omega arith)
                (λ w w_in r ne.
                let other : part w ≢ j = λ (e : part w ≡ j). ne (one_component w u w_in (omega arith) (e ∙ sym here)) in
                (part w, number_is w w_in, may u w member (omega arith) r other)),
          );
    }

    pub are_parts : (inner : List Bool) → length inner ≡ k → AreInnerMarks net part_of inner → AreParts net (record { part_of = part_of; inner = inner })
    are_parts inner long marks = record {
      strong = strong;
      below = λ i d l.
          let c = length_is in
          let read = get_or_default part_of i d 0 l in
          let b = o.numbered.below i (part i) (number_is i (omega arith)) in
          omega arith;
      some_member = λ j l.
          let x = o.numbered.taken j (omega arith) in
          let c = length_is in
          let d = o.numbered.count in
          let t_in = number_in o.numbers x.0 j x.1.here in
          (x.0, record { in_range = omega arith; here = part_is x.0 j x.1.here });
      rises = λ i d l.
          let p : PlaceId = record { index = i } in
          subst (λ x. part x.from.index ≤ part x.to.index) (sym (get_or_default net.places i d no_place l)) (never_fall p l);
      order = subst (AreInOrder net part_of) (sym long) in_order;
      inner = λ j l. (λ e. marks.sound j e, λ w. marks.complete j w.0 w.1);
    }
