-- Each number up to an entry of Kleene's recursion is that of a walk, or less.
use Rattle.std.proofs.Common.{ℕ, ℤ, zero, suc, pos, negsuc, ◌<◌, ◌≤◌, ◌≡◌, ◌+ℤ◌, ◌-ℤ◌, List, [], ◌∷◌, ◌++◌, refl, sym, ap, subst, ◌∙◌, arith, ⊎_elim}
use Rattle.std.specs.Prelude.{◌≤ℤ◌, All}
use Rattle.std.proofs.lemmas.Int.{ints}
use Rattle.std.proofs.lemmas.List.Elements.{All-nil, All-cons, All-append}
use Rattle.dioid.specs.declared.dates.Date.{Date}
use Rattle.dioid.specs.declared.dates.Date.TheVariants.{Early, At, Never}
use Rattle.dioid.specs.Dates.{IsAtMostDate, later_of, date_product, date_star}
use Rattle.dioid.specs.Proved.DateLaws.{date_laws}
use Rattle.dioid.proofs.DateOrder.{at_most_trans, later_either, product_rises}
use Rattle.dioid_matrix.specs.MatrixStars.{steps_of}
use Rattle.algebra_laws.specs.WalkWeights.{dates, date_stars, walk_weight}

-- a walk by the first n rows that weighs so much or more
pub record HasWalk (n : ℕ) (a : ℕ → ℕ → Date) (i j : ℕ) (q : ℤ) : Type 0 where
  pub rows : List ℕ
  pub inside : All (λ k. k < n) rows
  pub heavy : IsAtMostDate (At q) (walk_weight a i rows j)

-- the weight of a walk by k is the sum of the two
weight_by : (a : ℕ → ℕ → Date) (ks ls : List ℕ) (i k j : ℕ) → walk_weight a i (ks ++ k ∷ ls) j ≡ date_product (walk_weight a i ks k) (walk_weight a k ls j)
weight_by a [] ls i k j = refl
weight_by a (m ∷ ks) ls i k j =
    ap (date_product (a i m)) (weight_by a ks ls m k j) ∙ sym (date_laws.product_assoc (a i m) (walk_weight a m ks k) (walk_weight a k ls j) tt tt tt)

lighter : (n : ℕ) (a : ℕ → ℕ → Date) (i j : ℕ) (p q : ℤ) → q ≤ℤ p → HasWalk n a i j p → HasWalk n a i j q
lighter n a i j p q l w = record { rows = w.rows; inside = w.inside; heavy = at_most_trans (At q) (At p) (walk_weight a i w.rows j) l w.heavy }

joined : (n : ℕ) (a : ℕ → ℕ → Date) (i k j : ℕ) (p q : ℤ) → k < n → HasWalk n a i k p → HasWalk n a k j q → HasWalk n a i j (p +ℤ q)
joined n a i k j p q l v w = record {
  rows = v.rows ++ k ∷ w.rows;
  inside = All-append (λ m. m < n) v.rows (k ∷ w.rows) v.inside (All-cons (λ m. m < n) k w.rows l w.inside);
  heavy = subst (λ (z : Date). IsAtMostDate (At (p +ℤ q)) z) (sym (weight_by a v.rows w.rows i k j))
      (product_rises (At p) (walk_weight a i v.rows k) (At q) (walk_weight a k w.rows j) v.heavy w.heavy);
}

-- round a circuit of weight 1 or more as often as one likes
rounds : (n : ℕ) (a : ℕ → ℕ → Date) (i k : ℕ) (p : ℤ) → k < n → HasWalk n a k k (pos 1) → HasWalk n a i k p → (m : ℕ) → HasWalk n a i k (p +ℤ pos m)
rounds n a i k p l loop w zero = lighter n a i k p (p +ℤ pos 0) (omega (arith, ints)) w
rounds n a i k p l loop w (suc m) = lighter n a i k ((p +ℤ pos m) +ℤ pos 1) (p +ℤ pos (suc m)) (omega (arith, ints)) (joined n a i k k (p +ℤ pos m) (pos 1) l (rounds n a i k p l loop w m) loop)

-- two numbers up to the factors of a product, with their sum
record IsSplit (x y : Date) (q : ℤ) : Type 0 where
  pub u : ℤ
  pub v : ℤ
  pub left : IsAtMostDate (At u) x
  pub right : IsAtMostDate (At v) y
  pub sum : q ≤ℤ (u +ℤ v)

split : (x y : Date) (q : ℤ) → IsAtMostDate (At q) (date_product x (date_product (At (pos 0)) y)) → IsSplit x y q
split Early y q h = absurd h
split (At s) Early q h = absurd h
split (At s) (At t) q h = record { u = s; v = t; left = omega (arith, ints); right = omega (arith, ints); sum = omega (arith, ints, h) }
split (At s) Never q h = record { u = s; v = q -ℤ s; left = omega (arith, ints); right = tt; sum = omega (arith, ints) }
split Never Early q h = absurd h
split Never (At t) q h = record { u = q -ℤ t; v = t; left = tt; right = omega (arith, ints); sum = omega (arith, ints) }
split Never Never q h = record { u = q; v = pos 0; left = tt; right = tt; sum = omega (arith, ints) }

-- and without the sum, where the star between them is Never
record AreBoth (x y : Date) : Type 0 where
  pub u : ℤ
  pub v : ℤ
  pub left : IsAtMostDate (At u) x
  pub right : IsAtMostDate (At v) y

both : (x y : Date) (q : ℤ) → IsAtMostDate (At q) (date_product x (date_product Never y)) → AreBoth x y
both Early y q h = absurd h
both (At s) Early q h = absurd h
both (At s) (At t) q h = record { u = s; v = t; left = omega (arith, ints); right = omega (arith, ints) }
both (At s) Never q h = record { u = s; v = pos 0; left = omega (arith, ints); right = tt }
both Never Early q h = absurd h
both Never (At t) q h = record { u = pos 0; v = t; left = tt; right = omega (arith, ints) }
both Never Never q h = record { u = pos 0; v = pos 0; left = tt; right = tt }

-- a number of which no number is less
above : (z : ℤ) → (m : ℕ) × (z ≤ℤ pos m)
above (pos m) = (m, (let e : pos m ≤ℤ pos m = omega (arith, ints) in e))
above (negsuc m) = (0, (let e : negsuc m ≤ℤ pos 0 = omega (arith, ints) in e))

module _ (n : ℕ) (a : ℕ → ℕ → Date) where
  abbrev Reach : ℕ → ℕ → Date → Type 0
  Reach i j e = (q : ℤ) → IsAtMostDate (At q) e → HasWalk n a i j q

  -- by k once
  once : (k i j : ℕ) (x y : Date) → k < n → Reach i k x → Reach k j y → (q : ℤ) → IsAtMostDate (At q) (date_product x (date_product (At (pos 0)) y)) → HasWalk n a i j q
  once k i j x y l f g q h =
      let s = split x y q h in
      lighter n a i j (s.u +ℤ s.v) q s.sum (joined n a i k j s.u s.v l (f s.u s.left) (g s.v s.right))

  -- by k as often as one likes
  often : (k i j : ℕ) (x y : Date) → k < n → Reach i k x → Reach k j y → HasWalk n a k k (pos 1) → (q : ℤ) → IsAtMostDate (At q) (date_product x (date_product Never y)) → HasWalk n a i j q
  often k i j x y l f g loop q h =
      let s = both x y q h in
      let m = above (q -ℤ (s.u +ℤ s.v)) in
      let far = m.1 in
      lighter n a i j ((s.u +ℤ pos m.0) +ℤ s.v) q (omega (arith, ints, far)) (joined n a i k j (s.u +ℤ pos m.0) s.v l (rounds n a i k s.u l loop (f s.u s.left) m.0) (g s.v s.right))

  by_star : (k i j : ℕ) (x c y : Date) → k < n → Reach i k x → Reach k k c → Reach k j y → (q : ℤ) → IsAtMostDate (At q) (date_product x (date_product (date_star c) y)) → HasWalk n a i j q
  by_star k i j x Early y l f g h q low = once k i j x y l f h q low
  by_star k i j x (At (pos zero)) y l f g h q low = once k i j x y l f h q low
  by_star k i j x (At (pos (suc m))) y l f g h q low = often k i j x y l f h (g (pos 1) (let e : pos 1 ≤ℤ pos (suc m) = omega (arith, ints) in e)) q low
  by_star k i j x (At (negsuc m)) y l f g h q low = once k i j x y l f h q low
  by_star k i j x Never y l f g h q low = often k i j x y l f h (g (pos 1) tt) q low

  pub attained : (k : ℕ) → k ≤ n → (i j : ℕ) → Reach i j (steps_of dates date_stars a k i j)
  attained zero l i j q h = record { rows = []; inside = All-nil (λ m. m < n); heavy = h }
  attained (suc k) l i j q h =
      let r : ℕ → ℕ → Date = steps_of dates date_stars a k in
      let old = attained k (omega arith) in
      let way : Date = date_product (r i k) (date_product (date_star (r k k)) (r k j)) in
      ⊎_elim
      (λ (e : later_of (r i j) way ≡ r i j). old i j q (subst (λ (z : Date). IsAtMostDate (At q) z) e h))
      (λ (e : later_of (r i j) way ≡ way). by_star k i j (r i k) (r k k) (r k j) (omega arith) (old i k) (old k k) (old k j) q (subst (λ (z : Date). IsAtMostDate (At q) z) e h))
      (later_either (r i j) way)
