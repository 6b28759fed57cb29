-- The marked transitions in order: one more, which is marked or not.
use Rattle.std.proofs.Common.{ℕ, zero, suc, ◌+◌, ◌<◌, ◌≤◌, ◌≡◌, Bool, true, false, IsTrue, All, List, [], ◌∷◌, ◌++◌, length, get_or, slice_get, Some, sym, ap, subst, ◌∙◌, arith, ⊎_elim, length-append}
use Rattle.std.proofs.lemmas.Bool.{cases_lt, false≢true}
use Rattle.std.proofs.lemmas.List.{get_or_append_left, get_or_default}
use Rattle.std.proofs.Math.Seq.{get_or-append_seam}
use Rattle.settled_forms.specs.Spread.{is_marked}
use Rattle.walk_times.specs.Reached.{IsNumbering}

-- a fact of all numbers below one, and of one more
up_to : (P : ℕ → Type 0) (n : ℕ) → ((u : ℕ) → u < n → P u) → P n → (u : ℕ) → u < n + 1 → P u
up_to P n h e u l = ⊎_elim (λ (q : u < n). h u q) (λ (q : n ≤ u). let is : n ≡ u = omega arith in subst P is e) (cases_lt u n)

module _ (marks : List Bool) (i : ℕ) (old new : List ℕ) (h : IsNumbering marks i old new) where
  abbrev longer : List ℕ
  longer = new ++ length old ∷ []

  same : (t : ℕ) → t < i → get_or (new ++ length old ∷ []) t 0 ≡ get_or new t 0
  same t l = get_or_append_left new (length old ∷ []) 0 t (omega (arith, h.long))

  long : length (new ++ length old ∷ []) ≡ i + 1
  long = omega (arith, h.long, length-append new (length old ∷ []))

  pub passed_over : is_marked marks i ≡ false → IsNumbering marks (i + 1) old (new ++ length old ∷ [])
  passed_over off = record {
    long = long;
    few = omega (arith, h.few);
    within = λ u l. omega (arith, h.within u l);
    marked = h.marked;
    back = λ u l. same (get_or old u 0) (h.within u l) ∙ h.back u l;
    found = up_to (λ t. IsTrue (is_marked marks t) → get_or longer t 0 < length old) i
        (λ t l m. omega (arith, same t l, h.found t l m))
        (λ m. absurd (false≢true (sym off ∙ m)));
    forth = up_to (λ t. IsTrue (is_marked marks t) → get_or old (get_or longer t 0) 0 ≡ t) i
        (λ t l m. ap (λ u. get_or old u 0) (same t l) ∙ h.forth t l m)
        (λ m. absurd (false≢true (sym off ∙ m)));
    rises = h.rises;
  }

  abbrev more : List ℕ
  more = old ++ i ∷ []

  before : (u : ℕ) → u < length old → get_or (old ++ i ∷ []) u 0 ≡ get_or old u 0
  before u l = get_or_append_left old (i ∷ []) 0 u l

  last : get_or (old ++ i ∷ []) (length old) 0 ≡ i
  last = get_or-append_seam old i [] 0

  here : get_or (new ++ length old ∷ []) i 0 ≡ length old
  here = subst (λ j. get_or longer j 0 ≡ length old) h.long (get_or-append_seam new (length old) [] 0)

  size : length (old ++ i ∷ []) ≡ length old + 1
  size = omega (arith, length-append old (i ∷ []))

  each_more : (P : ℕ → Type 0) → ((u : ℕ) → u < length old → P u) → P (length old) → (u : ℕ) → u < length more → P u
  each_more P a e u l = up_to P (length old) a e u (omega (arith, size))

  pub taken_in : is_marked marks i ≡ true → IsNumbering marks (i + 1) (old ++ i ∷ []) (new ++ length old ∷ [])
  taken_in on = record {
    long = long;
    few = omega (arith, size, h.few);
    within = each_more (λ u. get_or more u 0 < i + 1)
        (λ u l. omega (arith, before u l, h.within u l))
        (omega (arith, last));
    marked = each_more (λ u. IsTrue (is_marked marks (get_or more u 0)))
        (λ u l. subst (λ t. IsTrue (is_marked marks t)) (sym (before u l)) (h.marked u l))
        (subst (λ t. IsTrue (is_marked marks t)) (sym last) on);
    back = each_more (λ u. get_or longer (get_or more u 0) 0 ≡ u)
        (λ u l. ap (λ t. get_or longer t 0) (before u l) ∙ (same (get_or old u 0) (h.within u l) ∙ h.back u l))
        (ap (λ t. get_or longer t 0) last ∙ here);
    found = up_to (λ t. IsTrue (is_marked marks t) → get_or longer t 0 < length more) i
        (λ t l m. omega (arith, same t l, h.found t l m, size))
        (λ m. omega (arith, here, size));
    forth = up_to (λ t. IsTrue (is_marked marks t) → get_or more (get_or longer t 0) 0 ≡ t) i
        (λ t l m. ap (λ u. get_or more u 0) (same t l) ∙ (before (get_or new t 0) (h.found t l m) ∙ h.forth t l m))
        (λ m. ap (λ u. get_or more u 0) here ∙ last);
    rises = λ u v less l. each_more (λ w. u < w → get_or more u 0 < get_or more w 0)
        (λ w k m. omega (arith, before u (omega arith), before w k, h.rises u w m k))
        (λ m. omega (arith, before u m, last, h.within u m))
        v l less;
  }

-- the marked ones are some of them
pub all_within : (marks : List Bool) (count : ℕ) (old new : List ℕ) → IsNumbering marks count old new → All (λ t. t < count) old
all_within marks count old new h u d l = rw (get_or_default old u d 0 l) (h.within u l)

-- what is read at a place within the list
pub got : {X : Type 0} (xs : List X) (i : ℕ) (x : X) → i < length xs → ((d : X) → x ≡ get_or xs i d) → slice_get xs i ≡ Some x
got [] i x l h = absurd (omega arith)
got (y ∷ xs) zero x l h = ap Some (sym (h x))
got (y ∷ xs) (suc i) x l h = got xs i x (omega arith) h
