-- The star of the matrix of holds: its entries are the greatest times of paths without tokens.
use Rattle.std.proofs.Common.{ℕ, pos, zero, suc, ◌+◌, ◌<◌, ◌≤◌, ◌≡◌, ◌≢◌, ◌+ℤ◌, List, [], ◌∷◌, cond, eqb, length, refl, sym, ap, subst, ◌∙◌, arith, ⊎_elim}
use Rattle.std.proofs.lemmas.Int.{ints}
use Rattle.std.proofs.lemmas.Bool.Decides.{nat_tests}
use Rattle.std.proofs.lemmas.List.Sums.{sum_by-cons}
use Rattle.std.proofs.Math.Nat.{eq-or-lt_of_le}
use Rattle.dioid.specs.declared.dates.Date.{Date}
use Rattle.dioid.specs.declared.dates.Date.TheVariants.{Early, At, Never}
use Rattle.dioid.specs.declared.algebra.Dioid.{Ghosts as DioidOf}
use Rattle.dioid.specs.declared.algebra.Kleene.{Ghosts as KleeneOf}
use Rattle.dioid.specs.Dates.{IsAtMostDate, later_of, date_product}
use Rattle.dioid.proofs.DateOrder.{at_most_trans, later_left, later_right}
use Rattle.dioid_matrix.specs.Sums.{total_of_first, dot}
use Rattle.dioid_matrix.specs.MatrixStars.{IsLeastSolution}
use Rattle.teg_net.specs.declared.entries.PlaceId.{PlaceId}
use Rattle.teg_net.specs.Nets.{NetLists, IsNet}
use Rattle.teg_net.specs.Circuits.{no_place, place_at, IsPathBetween, time_of, tokens_of}
use Rattle.teg_form.proofs.Recursion.{AreOfDates}

-- one at this place, and none elsewhere
abbrev pub unit : ℕ → ℕ → Date
unit c j = cond (eqb j c) (At (pos 0)) Early

unit_at : (c : ℕ) → unit c c ≡ At (pos 0)
unit_at c = grind (arith, nat_tests)

unit_off : (c j : ℕ) → j ≢ c → unit c j ≡ Early
unit_off c j h = grind (arith, nat_tests)

after_zero : (x : Date) → date_product x (At (pos 0)) ≡ x
after_zero Early = refl
after_zero (At x) = let e : x +ℤ pos 0 ≡ x = omega (arith, ints) in ap At e
after_zero Never = refl

times_none : (x : Date) → date_product x Early ≡ Early
times_none Early = refl
times_none (At x) = refl
times_none Never = refl

later_none : (x : Date) → later_of x Early ≡ x
later_none Early = refl
later_none (At x) = refl
later_none Never = refl

pub at_most_of_sum : (a b : Date) → later_of a b ≡ b → IsAtMostDate a b
at_most_of_sum a b e = subst (IsAtMostDate a) e (later_left a b)

pub product_rises : (m n : ℕ) (x y : Date) → IsAtMostDate (At (pos m)) x → IsAtMostDate (At (pos n)) y → IsAtMostDate (At (pos (m + n))) (date_product x y)
product_rises m n Early y h l = absurd h
product_rises m n (At x) Early h l = absurd l
product_rises m n (At x) (At y) h l = omega (arith, ints)
product_rises m n (At x) Never h l = tt
product_rises m n Never Early h l = absurd l
product_rises m n Never (At y) h l = tt
product_rises m n Never Never h l = tt

module _ (d : DioidOf Date) (s : KleeneOf Date) (is : AreOfDates d s) where
  term_at_most : (f : ℕ → Date) (n j : ℕ) → j < n → IsAtMostDate (f j) (total_of_first d f n)
  term_at_most f zero j h = absurd (omega arith)
  term_at_most f (suc n) j h = subst (IsAtMostDate (f j)) (sym (is.sum_is (total_of_first d f n) (f n))) (⊎_elim
      (λ (q : j ≡ n). subst (λ m. IsAtMostDate (f m) (later_of (total_of_first d f n) (f n))) (sym q) (later_right (total_of_first d f n) (f n)))
      (λ (m : j < n). at_most_trans (f j) (total_of_first d f n) (later_of (total_of_first d f n) (f n)) (term_at_most f n j m) (later_left (total_of_first d f n) (f n)))
      (eq-or-lt_of_le {n = j} {m = n} (omega arith)))

  module _ (row : ℕ → Date) (c : ℕ) where
    off_term : (j : ℕ) → j ≢ c → d.product (row j) (unit c j) ≡ Early
    off_term j h = is.product_is _ _ ∙ ap (date_product (row j)) (unit_off c j h) ∙ times_none (row j)

    on_term : d.product (row c) (unit c c) ≡ row c
    on_term = is.product_is _ _ ∙ ap (date_product (row c)) (unit_at c) ∙ after_zero (row c)

    before : (n : ℕ) → n ≤ c → dot d n row (unit c) ≡ Early
    before zero h = is.zero_is
    before (suc n) h =
        is.sum_is _ _ ∙ ap (later_of (dot d n row (unit c))) (off_term n (λ e. absurd (omega (arith, e)))) ∙ later_none (dot d n row (unit c)) ∙ before n (omega arith)

    -- a row by the unit column is its entry there
    pub dot_unit : (n : ℕ) → c < n → dot d n row (unit c) ≡ row c
    dot_unit zero h = absurd (omega arith)
    dot_unit (suc n) h = ⊎_elim
        (λ (q : c ≡ n).
        let last : d.product (row n) (unit c n) ≡ row c = subst (λ m. d.product (row m) (unit c m) ≡ row c) q on_term in
        is.sum_is _ _ ∙ ap (later_of (dot d n row (unit c))) last ∙ ap (λ z. later_of z (row c)) (before n (omega (arith, q))))
        (λ (m : c < n).
        is.sum_is _ _ ∙ ap (later_of (dot d n row (unit c))) (off_term n (λ e. absurd (omega (arith, e)))) ∙ later_none (dot d n row (unit c)) ∙ dot_unit n m)
        (eq-or-lt_of_le {n = c} {m = n} (omega arith))

  -- a table t that gives the least solution of a for each column
  module _ (n : ℕ) (a t : ℕ → ℕ → Date) (least : (b : ℕ → Date) → ((i : ℕ) → d.is_element (b i)) → IsLeastSolution d n a b (λ i. dot d n (t i) b)) where
    column : (c : ℕ) → IsLeastSolution d n a (unit c) (λ i. dot d n (t i) (unit c))
    column c = least (unit c) (λ i. is.elements (unit c i))

    whole : (i c : ℕ) → i < n → c < n → IsAtMostDate (later_of (dot d n (a i) (λ j. dot d n (t j) (unit c))) (unit c i)) (t i c)
    whole i c hi hc =
        let e = (column c).solves i hi in
        let low : Date = d.sum (dot d n (a i) (λ j. dot d n (t j) (unit c))) (unit c i) in
        let x : Date = dot d n (t i) (unit c) in
        let under : IsAtMostDate low x = at_most_of_sum low x (sym (is.sum_is low x) ∙ e) in
        subst (λ z. IsAtMostDate z (t i c)) (is.sum_is _ _) (subst (IsAtMostDate low) (dot_unit (t i) c n hc) under)

    -- the empty path
    pub none_taken : (c : ℕ) → c < n → IsAtMostDate (At (pos 0)) (t c c)
    none_taken c hc =
        let w = whole c c hc hc in
        let rest : Date = dot d n (a c) (λ j. dot d n (t j) (unit c)) in
        at_most_trans (At (pos 0)) (later_of rest (unit c c)) (t c c)
        (subst (λ z. IsAtMostDate z (later_of rest (unit c c))) (unit_at c) (later_right rest (unit c c))) w

    -- a first step, and the way on from there
    pub step_taken : (i j c : ℕ) → i < n → j < n → c < n → IsAtMostDate (date_product (a i j) (t j c)) (t i c)
    step_taken i j c hi hj hc =
        let w = whole i c hi hc in
        let rest : Date = dot d n (a i) (λ j. dot d n (t j) (unit c)) in
        let term : IsAtMostDate (d.product (a i j) (dot d n (t j) (unit c))) rest = term_at_most (λ m. d.product (a i m) (dot d n (t m) (unit c))) n j hj in
        let same : d.product (a i j) (dot d n (t j) (unit c)) ≡ date_product (a i j) (t j c) = is.product_is _ _ ∙ ap (date_product (a i j)) (dot_unit (t j) c n hc) in
        at_most_trans (date_product (a i j) (t j c)) rest (t i c)
        (subst (λ z. IsAtMostDate z rest) same term)
        (at_most_trans rest (later_of rest (unit c i)) (t i c) (later_left rest (unit c i)) w)

    -- no path without tokens takes longer than the entry of its ends
    module _ (net : NetLists) (ok : IsNet net) (size : n ≡ length net.transitions)
        (holds : (id : PlaceId) → id.index < length net.places → (place_at net id).tokens ≡ 0
        → IsAtMostDate (At (pos (place_at net id).hold)) (a (place_at net id).from.index (place_at net id).to.index)) where
      ends_in : (ps : List PlaceId) (i c : ℕ) → i < n → IsPathBetween net i ps c → c < n
      ends_in [] i c hi h = omega (arith, h)
      ends_in (p ∷ ps) i c hi h = ends_in ps (place_at net p).to.index c (omega (arith, size, (ok.each_place p.index no_place h.0).to_in)) h.2

      pub path_below : (ps : List PlaceId) (i c : ℕ) → i < n → IsPathBetween net i ps c → tokens_of net ps ≡ 0 → IsAtMostDate (At (pos (time_of net ps))) (t i c)
      path_below [] i c hi h z = subst (λ m. IsAtMostDate (At (pos 0)) (t i m)) h (none_taken i hi)
      path_below (p ∷ ps) i c hi h z =
          let tokens = sum_by-cons (λ q. (place_at net q).tokens) p ps in
          let time : time_of net (p ∷ ps) ≡ (place_at net p).hold + time_of net ps = sum_by-cons (λ q. (place_at net q).hold) p ps in
          let here : (place_at net p).tokens ≡ 0 = omega arith in
          let free : tokens_of net ps ≡ 0 = omega arith in
          let to : ℕ = (place_at net p).to.index in
          let to_in : to < n = omega (arith, size, (ok.each_place p.index no_place h.0).to_in) in
          let more = path_below ps to c to_in h.2 free in
          let end_in : c < n = ends_in ps to c to_in h.2 in
          let first : IsAtMostDate (At (pos (place_at net p).hold)) (a i to) = subst (λ m. IsAtMostDate (At (pos (place_at net p).hold)) (a m to)) h.1 (holds p h.0 here) in
          at_most_trans (At (pos (time_of net (p ∷ ps)))) (date_product (a i to) (t to c)) (t i c)
          (subst (λ m. IsAtMostDate (At (pos m)) (date_product (a i to) (t to c))) (sym time) (product_rises (place_at net p).hold (time_of net ps) (a i to) (t to c) first more))
          (step_taken i to c hi to_in end_in)
