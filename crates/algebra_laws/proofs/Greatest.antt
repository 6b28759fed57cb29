-- The star is at least the weight of each walk, and no more than what bounds them.
use Rattle.std.proofs.Common.{ℕ, ℤ, zero, suc, pos, ◌<◌, ◌≡◌, ◌+ℤ◌, ◌⊎◌, inl, inr, List, [], ◌∷◌, true, false, eqb, cond, refl, sym, ap, subst, ◌∙◌, arith, ⊎_elim}
use Rattle.std.specs.Prelude.{◌≤ℤ◌, All}
use Rattle.std.proofs.lemmas.Int.{ints}
use Rattle.std.proofs.lemmas.Bool.{cases_eq, eq-eqb, ne_eqb}
use Rattle.std.proofs.lemmas.List.Elements.{All-tail}
use Rattle.dioid.specs.declared.dates.Date.{Date}
use Rattle.dioid.specs.declared.dates.Date.TheVariants.{Early, At, Never}
use Rattle.dioid.specs.Dates.{IsAtMostDate, later_of, date_product}
use Rattle.dioid.specs.Proved.DateLaws.{date_laws}
use Rattle.dioid.proofs.DateOrder.{at_most_refl, at_most_is, at_most_trans, later_left, later_right, later_least, later_either, product_rises, at_most_of_the_sum}
use Rattle.dioid_matrix.specs.Sums.{total_of_first, dot}
use Rattle.dioid_matrix.specs.MatrixStars.{steps_of, star_of, StarsAreLeast}
use Rattle.algebra_laws.specs.WalkWeights.{dates, date_stars, walk_weight, HasGreatestWeights, StarsHaveGreatestWeights}
use Rattle.algebra_laws.proofs.Attained.{HasWalk, attained}

-- ---- sums of dates

term_low : (f : ℕ → Date) (n j : ℕ) → j < n → IsAtMostDate (f j) (total_of_first dates f n)
term_low f zero j l = absurd (omega arith)
term_low f (suc n) j l = ⊎_elim
    (λ (e : j ≡ n). at_most_trans (f j) (f n) (later_of (total_of_first dates f n) (f n)) (at_most_is (f j) (f n) (ap f e)) (later_right (total_of_first dates f n) (f n)))
    (λ (ne : j ≡ n → ⊥). at_most_trans (f j) (total_of_first dates f n) (later_of (total_of_first dates f n) (f n)) (term_low f n j (omega arith)) (later_left (total_of_first dates f n) (f n)))
    (cases_eq j n)

total_low : (f : ℕ → Date) (n : ℕ) (c : Date) → ((j : ℕ) → j < n → IsAtMostDate (f j) c) → IsAtMostDate (total_of_first dates f n) c
total_low f zero c h = tt
total_low f (suc n) c h = later_least (total_of_first dates f n) (f n) c (total_low f n c (λ j l. h j (omega arith))) (h n (omega arith))

-- ---- the column of one at j

unit_at : ℕ → ℕ → Date
unit_at j k = cond (eqb k j) (At (pos 0)) Early

unit_here : (j : ℕ) → unit_at j j ≡ At (pos 0)
unfolding unit_at
unit_here j = let b : eqb j j ≡ true = eq-eqb j j refl in rw b refl

unit_apart : (j k : ℕ) → (k ≡ j → ⊥) → unit_at j k ≡ Early
unfolding unit_at
unit_apart j k ne = let b : eqb k j ≡ false = ne_eqb k j ne in rw b refl

-- the product of a row and that column is the row's entry
row_at : (n : ℕ) (row : ℕ → Date) (j : ℕ) → j < n → IsAtMostDate (row j) (dot dates n row (unit_at j)) × IsAtMostDate (dot dates n row (unit_at j)) (row j)
row_at n row j l =
    let own : date_product (row j) (unit_at j j) ≡ row j = ap (date_product (row j)) (unit_here j) ∙ date_laws.one_neutral_right (row j) tt in (
      at_most_trans (row j) (date_product (row j) (unit_at j j)) (dot dates n row (unit_at j)) (at_most_is (row j) (date_product (row j) (unit_at j j)) (sym own))
          (term_low (λ k. date_product (row k) (unit_at j k)) n j l),
      total_low (λ k. date_product (row k) (unit_at j k)) n (row j) (λ k m. ⊎_elim
          (λ (e : k ≡ j). subst (λ (z : ℕ). IsAtMostDate (date_product (row z) (unit_at j z)) (row j)) (sym e) (at_most_is (date_product (row j) (unit_at j j)) (row j) own))
          (λ (ne : k ≡ j → ⊥).
          let none : date_product (row k) (unit_at j k) ≡ Early = ap (date_product (row k)) (unit_apart j k ne) ∙ date_laws.zero_absorbs_right (row k) tt in
          subst (λ (z : Date). IsAtMostDate z (row j)) (sym none) tt)
          (cases_eq k j)),
    )

-- ---- both halves

below_all : (e z : Date) → ((q : ℤ) → IsAtMostDate (At q) e → IsAtMostDate (At q) z) → IsAtMostDate e z
below_all Early z h = tt
below_all (At v) z h = h v (let e : v ≤ℤ v = omega (arith, ints) in e)
below_all Never Early h = absurd (h (pos 0) tt)
below_all Never (At p) h = let e : (p +ℤ pos 1) ≤ℤ p = h (p +ℤ pos 1) tt in absurd (omega (arith, ints, e))
below_all Never Never h = tt

module _ (stars : StarsAreLeast dates date_stars) (n : ℕ) (a : ℕ → ℕ → Date) (j : ℕ) (in' : j < n) where
  abbrev star : ℕ → Date
  star i = star_of dates date_stars n a i j

  abbrev column : ℕ → Date
  column i = dot dates n (star_of dates date_stars n a i) (unit_at j)

  least_here : (i : ℕ) → i < n → IsAtMostDate (later_of (dot dates n (a i) column) (unit_at j i)) (column i)
  least_here i l = (at_most_of_the_sum (later_of (dot dates n (a i) column) (unit_at j i)) (column i)).0 ((stars n a (unit_at j) (λ _ _. tt) (λ _. tt)).1.solves i l)

  -- a step to a row, and on from there
  step : (i k : ℕ) (w : Date) → i < n → k < n → IsAtMostDate w (star k) → IsAtMostDate (date_product (a i k) w) (star i)
  step i k w l m low =
      let up : IsAtMostDate w (column k) = at_most_trans w (star k) (column k) low (row_at n (star_of dates date_stars n a k) j in').0 in
      let one = product_rises (a i k) (a i k) w (column k) (at_most_refl (a i k)) up in
      let two = term_low (λ r. date_product (a i r) (column r)) n k m in
      let three = later_left (dot dates n (a i) column) (unit_at j i) in
      at_most_trans (date_product (a i k) w) (date_product (a i k) (column k)) (star i) one
      (at_most_trans (date_product (a i k) (column k)) (dot dates n (a i) column) (star i) two
      (at_most_trans (dot dates n (a i) column) (later_of (dot dates n (a i) column) (unit_at j i)) (star i) three
      (at_most_trans (later_of (dot dates n (a i) column) (unit_at j i)) (column i) (star i) (least_here i l) (row_at n (star_of dates date_stars n a i) j in').1)))

  still : IsAtMostDate (At (pos 0)) (star j)
  still =
      at_most_trans (At (pos 0)) (unit_at j j) (star j) (at_most_is (At (pos 0)) (unit_at j j) (sym (unit_here j)))
      (at_most_trans (unit_at j j) (later_of (dot dates n (a j) column) (unit_at j j)) (star j) (later_right (dot dates n (a j) column) (unit_at j j))
      (at_most_trans (later_of (dot dates n (a j) column) (unit_at j j)) (column j) (star j) (least_here j in') (row_at n (star_of dates date_stars n a j) j in').1))

  weighs : (ks : List ℕ) (i : ℕ) → i < n → All (λ k. k < n) ks → IsAtMostDate (walk_weight a i ks j) (star i)
  weighs [] i l inside = subst (λ (z : Date). IsAtMostDate z (star i)) (date_laws.one_neutral_right (a i j) tt) (step i j (At (pos 0)) l in' still)
  weighs (k ∷ ks) i l inside =
      let m : k < n = inside 0 k (omega arith) in
      step i k (walk_weight a k ks j) l m (weighs ks k m (All-tail (λ r. r < n) k ks inside))

  -- a number up to the entry is that of a walk, or at most 0 where none is needed
  reached : (i : ℕ) (q : ℤ) → IsAtMostDate (At q) (star i) → HasWalk n a i j q ⊎ ((i ≡ j) × (q ≤ℤ pos 0))
  reached i q h = ⊎_elim
      (λ (e : i ≡ j).
      let b : eqb i j ≡ true = eq-eqb i j e in
      let own : IsAtMostDate (At q) (later_of (steps_of dates date_stars a n i j) (At (pos 0))) = rw b at h in
      ⊎_elim
      (λ (f : later_of (steps_of dates date_stars a n i j) (At (pos 0)) ≡ steps_of dates date_stars a n i j).
      inl (attained n a n (omega arith) i j q (subst (λ (z : Date). IsAtMostDate (At q) z) f own)))
      (λ (f : later_of (steps_of dates date_stars a n i j) (At (pos 0)) ≡ At (pos 0)). inr (e, subst (λ (z : Date). IsAtMostDate (At q) z) f own))
      (later_either (steps_of dates date_stars a n i j) (At (pos 0))))
      (λ (ne : i ≡ j → ⊥).
      let b : eqb i j ≡ false = ne_eqb i j ne in
      let own : IsAtMostDate (At q) (steps_of dates date_stars a n i j) = rw b at h in
      inl (attained n a n (omega arith) i j q own))
      (cases_eq i j)

  greatest : (i : ℕ) → i < n → HasGreatestWeights n a i j (star i)
  greatest i l = record {
    bounds = record {
      walks = λ ks inside. weighs ks i l inside;
      still = λ e. subst (λ (z : ℕ). IsAtMostDate (At (pos 0)) (star z)) (sym e) still;
    };
    least = λ z b. below_all (star i) z (λ q h. ⊎_elim
        (λ (w : HasWalk n a i j q). at_most_trans (At q) (walk_weight a i w.rows j) z w.heavy (b.walks w.rows w.inside))
        (λ (w : (i ≡ j) × (q ≤ℤ pos 0)). at_most_trans (At q) (At (pos 0)) z w.1 (b.still w.0))
        (reached i q h));
  }

pub stars_greatest : StarsAreLeast dates date_stars → StarsHaveGreatestWeights
stars_greatest stars n a i j l m = greatest stars n a j m i l
