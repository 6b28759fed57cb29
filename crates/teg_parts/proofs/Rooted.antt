-- Parts that are numbered one after the other, and the numbers once all have one.
use Rattle.std.proofs.Common.{ℕ, ◌<◌, ◌≤◌, ◌≡◌, List, Option, Some, None, Bool, true, false, length, get_or, sym, ap, subst, ◌∙◌, arith, inl, inr, ⊎_elim}
use Rattle.std.specs.Prelude.{◌⊎◌}
use Rattle.std.proofs.lemmas.Bool.{cases_lt, cases_Bool}
use Rattle.std.proofs.lemmas.List.{get_or_past, get_or-replicate, length-replicate}
use lib.ListN.{replicate}
use Rattle.teg_net.specs.Nets.{NetLists}
use Rattle.teg_net.specs.declared.places_of.PlaceEnd.TheVariants.{From, To}
use Rattle.teg_parts.specs.Components.{IsMarked, AreReachedMarks, AreMutual, found_at, AreFound, IsRooted, HasFound, AreComponents}
use Rattle.teg_parts.specs.PartNumbers.{AreNumbersListed}
use Rattle.teg_parts.proofs.Marks.{false_not_true}
use Rattle.teg_parts.proofs.Reaching.{reaches_itself, reaches_on}
use Rattle.teg_parts.proofs.Ordering.{cases_number, none_not_some, same_number, number_in}

mutual_itself : (net : NetLists) (t : ℕ) → AreMutual net t t
mutual_itself net t = (reaches_itself net t, reaches_itself net t)

mutual_back : (net : NetLists) (t u : ℕ) → AreMutual net t u → AreMutual net u t
mutual_back net t u m = (m.1, m.0)

mutual_on : (net : NetLists) (t u v : ℕ) → AreMutual net t u → AreMutual net u v → AreMutual net t v
mutual_on net t u v m n = (reaches_on net t u v m.0 n.0, reaches_on net v u t n.1 m.1)

none_found : (n t : ℕ) → found_at (replicate n None) t ≡ None
none_found n t =
    ⊎_elim
    (λ (l : t < n). get_or-replicate n t None None l)
    (λ (l : n ≤ t). let none : Option ℕ = None in get_or_past (replicate n None) t None (omega (arith, length-replicate n none)))
    (cases_lt t n)

pub found_none : (net : NetLists) (n : ℕ) → n ≡ length net.transitions → AreFound net (replicate n None)
found_none net n e =
    let none : Option ℕ = None in
    let long = length-replicate n none in
    record {
      count = omega arith;
      below = λ t c f. absurd (none_not_some (found_at (replicate n None) t) c (none_found n t) f);
      one = λ t c f. absurd (none_not_some (found_at (replicate n None) t) c (none_found n t) f);
      whole = λ t u c f l m. absurd (none_not_some (found_at (replicate n None) t) c (none_found n t) f);
    }

-- the part of the root is numbered as far as transition i
pub record RootedTo (onward back : List Bool) (root : ℕ) (old now : List (Option ℕ)) (i : ℕ) : Type 0 where
  pub count : length now ≡ length old
  pub given : (t : ℕ) → t < i → IsMarked onward t → IsMarked back t → found_at now t ≡ Some root
  pub kept : (t : ℕ) → (IsMarked onward t → IsMarked back t → ⊥) → found_at now t ≡ found_at old t

module _ (net : NetLists) (root : ℕ) (onward back : List Bool) (old new : List (Option ℕ)) (count : length new ≡ length old) (root_in : root < length net.transitions)
    (un : found_at old root ≡ None) (h : AreFound net old) (reached : AreReachedMarks net From root onward)
    (reaching : AreReachedMarks net To root back) (g : IsRooted onward back root old new) where
  given : (t : ℕ) → t < length net.transitions → AreMutual net root t → found_at new t ≡ Some root
  given t l m = let c = h.count in g.given t (omega arith) ((reached.exact t).1 m.0) ((reaching.exact t).1 m.1)

  kept : (t : ℕ) → (AreMutual net root t → ⊥) → found_at new t ≡ found_at old t
  kept t n = g.kept t (λ a b. n ((reached.exact t).0 a, (reaching.exact t).0 b))

  -- a transition that had a number is of another part
  apart : (t c : ℕ) → found_at old t ≡ Some c → AreMutual net root t → ⊥
  apart t c e m = none_not_some (found_at old root) c un (h.whole t root c e root_in (mutual_back net root t m))

  -- a number is the new one, or was there
  split : (t c : ℕ) → found_at new t ≡ Some c → ((c ≡ root) × AreMutual net root t) ⊎ (found_at old t ≡ Some c)
  split t c e =
      ⊎_elim
      (λ (a : get_or onward t false ≡ true).
      ⊎_elim
      (λ (b : get_or back t false ≡ true).
      let l = number_in new t c e in
      let m : AreMutual net root t = ((reached.exact t).0 a, (reaching.exact t).0 b) in
      inl (same_number (found_at new t) c root e (g.given t (omega arith) a b), m))
      (λ (b : get_or back t false ≡ false). inr (sym (g.kept t (λ x y. false_not_true (get_or back t false) b y)) ∙ e))
      (cases_Bool (get_or back t false)))
      (λ (a : get_or onward t false ≡ false). inr (sym (g.kept t (λ x y. false_not_true (get_or onward t false) a x)) ∙ e))
      (cases_Bool (get_or onward t false))

  still : (t c : ℕ) → found_at old t ≡ Some c → found_at new t ≡ Some c
  still t c e = kept t (apart t c e) ∙ e

  found_more : AreFound net new
  found_more = record {
    count = count ∙ h.count;
    below = λ t c e. ⊎_elim (λ (q : (c ≡ root) × AreMutual net root t). let s = q.0 in omega arith) (λ (q : found_at old t ≡ Some c). h.below t c q) (split t c e);
    one = λ t c e. ⊎_elim (λ (q : (c ≡ root) × AreMutual net root t). subst (AreMutual net t) (sym q.0) (mutual_back net root t q.1)) (λ (q : found_at old t ≡ Some c). h.one t c q) (split t c e);
    whole = λ t u c e l m.
        ⊎_elim
        (λ (q : (c ≡ root) × AreMutual net root t). given u l (mutual_on net root t u q.1 m) ∙ ap (λ x. Some x) (sym q.0))
        (λ (q : found_at old t ≡ Some c). still u c (h.whole t u c q l m))
        (split t c e);
  }

  pub has_found : HasFound net root old new
  has_found = record {
    found = found_more;
    kept = λ t n e.
        ⊎_elim
        (λ (q : found_at old t ≡ None). n q)
        (λ (q : (c : ℕ) × (found_at old t ≡ Some c)). none_not_some (found_at new t) q.0 e (still t q.0 q.1))
        (cases_number (found_at old t));
    numbered = λ e. none_not_some (found_at new root) root e (given root root_in (mutual_itself net root));
  }

-- once each transition has a number
pub are_components : (net : NetLists) (found : List (Option ℕ)) (plain : List ℕ) → AreFound net found → AreNumbersListed found plain → AreComponents net plain
are_components net found plain h n =
    let c = n.count in
    let d = h.count in
    record {
      count = c ∙ d;
      below = λ t l. let b = h.below t (get_or plain t 0) (n.same t (omega arith)) in omega arith;
      strong = λ t u l m.
          let x : found_at found t ≡ Some (get_or plain t 0) = n.same t (omega arith) in
          let y : found_at found u ≡ Some (get_or plain u 0) = n.same u (omega arith) in (
            λ e. mutual_on net t (get_or plain u 0) u (subst (AreMutual net t) e (h.one t (get_or plain t 0) x)) (mutual_back net u (get_or plain u 0) (h.one u (get_or plain u 0) y)),
            λ w. same_number (found_at found u) (get_or plain t 0) (get_or plain u 0) (h.whole t u (get_or plain t 0) x (omega arith) w) y,
          );
    }
