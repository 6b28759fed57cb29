-- Kleene's recursion gives the star of a matrix: least solutions for every column.
use Rattle.std.proofs.Common.{◌≡◌, ℕ, zero, suc, ◌<◌, Bool, true, false, cond, eqb, refl, ap, sym, ◌∙◌, arith, subst, ⊎_elim}
use Rattle.std.proofs.lemmas.Bool.Decides.{nat_tests}
use Rattle.std.proofs.Math.Nat.{eq-or-lt_of_le}
use Rattle.dioid.specs.DioidAxioms.{IsAtMost, IsClosed, DioidLaws, StarLaws}
use Rattle.dioid.specs.declared.algebra.Dioid.{Ghosts as DioidOf}
use Rattle.dioid.specs.declared.algebra.Kleene.{Ghosts as KleeneOf}
use Rattle.dioid_matrix.specs.Sums.{total_of_first, dot}
use Rattle.dioid_matrix.specs.MatrixStars.{steps_of, star_of, StarsAreLeast}
use Rattle.dioid_matrix.proofs.Order.{Below, same, equal, trans, least_above, left_part, right_part, both, at_product, antisym, total_is, term_below, total_below}

-- a number is found equal to itself
pub is_itself : (i : ℕ) → eqb i i ≡ true
is_itself i = grind (arith, nat_tests)

eqb_true : (i j : ℕ) → eqb i j ≡ true → i ≡ j
eqb_true i j h = grind (arith, nat_tests)

by_test : (t : Bool) (P : Bool → Type 0) → (t ≡ true → P true) → P false → P t
by_test true P h k = h refl
by_test false P h k = k

module _ {M : Type 0} (d : DioidOf M) (s : KleeneOf M) (closed : IsClosed d.is_element d.zero d.one d.sum d.product)
    (laws : DioidLaws d.is_element d.zero d.one d.sum d.product) (stars : StarLaws d.is_element d.sum d.product s.star) where
  -- the star solves with equality
  star_solved : (a b : M) → d.is_element a → d.is_element b → Below d.is_element d.sum (d.sum b (d.product a (d.product (s.star a) b))) (d.product (s.star a) b)
  star_solved a b ea eb =
      let es : d.is_element (d.product (s.star a) b) = closed.product_is _ _ (stars.star_is a ea) eb in
      let ep : d.is_element (d.product a (d.product (s.star a) b)) = closed.product_is _ _ ea es in
      record {
        low = closed.sum_is _ _ eb ep;
        high = es;
        at_most = ap (λ z. d.sum z (d.product (s.star a) b)) (laws.sum_commutes b (d.product a (d.product (s.star a) b)) eb ep) ∙ stars.solves a b ea eb;
      }

  star_least : {a b x : M} → d.is_element a → Below d.is_element d.sum (d.product a x) x → Below d.is_element d.sum b x → Below d.is_element d.sum (d.product (s.star a) b) x
  star_least {a} {b} {x} ea h k = record {
    low = closed.product_is _ _ (stars.star_is a ea) k.low;
    high = h.high;
    at_most = stars.least a b x ea k.low h.high (least_above closed laws h k).at_most;
  }

  -- (a b) c is a (b c)
  regroup : {a b c x : M} → d.is_element a → d.is_element b → d.is_element c → Below d.is_element d.sum (d.product a (d.product b c)) x → Below d.is_element d.sum (d.product (d.product a b) c) x
  regroup {a} {b} {c} ea eb ec h = trans closed laws (equal closed laws (closed.product_is _ _ (closed.product_is _ _ ea eb) ec) (laws.product_assoc a b c ea eb ec)) h

  ungroup : {a b c x : M} → d.is_element a → d.is_element b → d.is_element c → Below d.is_element d.sum (d.product (d.product a b) c) x → Below d.is_element d.sum (d.product a (d.product b c)) x
  ungroup {a} {b} {c} ea eb ec h = trans closed laws (equal closed laws (closed.product_is _ _ ea (closed.product_is _ _ eb ec)) (sym (laws.product_assoc a b c ea eb ec))) h

  -- a (b + c) is at most x where a b and a c are
  spread : {a b c x : M} → d.is_element a → d.is_element b → d.is_element c → Below d.is_element d.sum (d.product a b) x
      → Below d.is_element d.sum (d.product a c) x → Below d.is_element d.sum (d.product a (d.sum b c)) x
  spread {a} {b} {c} ea eb ec h k = trans closed laws (equal closed laws (closed.product_is _ _ ea (closed.sum_is _ _ eb ec)) (laws.left_distributes a b c ea eb ec)) (least_above closed laws h k)

  spread_right : {a b c x : M} → d.is_element a → d.is_element b → d.is_element c → Below d.is_element d.sum (d.product a c) x
      → Below d.is_element d.sum (d.product b c) x → Below d.is_element d.sum (d.product (d.sum a b) c) x
  spread_right {a} {b} {c} ea eb ec h k = trans closed laws
      (equal closed laws (closed.product_is _ _ (closed.sum_is _ _ ea eb) ec) (laws.right_distributes a b c ea eb ec)) (least_above closed laws h k)

  -- a product with a sum
  product_total : (a : M) (f : ℕ → M) (n : ℕ) (x : M) → d.is_element a → d.is_element x → ((j : ℕ) → d.is_element (f j))
      → ((j : ℕ) → j < n → Below d.is_element d.sum (d.product a (f j)) x) → Below d.is_element d.sum (d.product a (total_of_first d f n)) x
  product_total a f zero x ea ex ef h = trans closed laws
      (equal closed laws (closed.product_is _ _ ea closed.zero_is) (laws.zero_absorbs_right a ea))
      (record { low = closed.zero_is; high = ex; at_most = laws.zero_neutral x ex })
  product_total a f (suc n) x ea ex ef h = spread ea (total_is d closed laws f n ef) (ef n) (product_total a f n x ea ex ef (λ j k. h j (omega arith))) (h n (omega arith))

  module _ (a : ℕ → ℕ → M) (ea : (i j : ℕ) → d.is_element (a i j)) where
    steps_is : (k i j : ℕ) → d.is_element (steps_of d s a k i j)
    steps_is zero i j = ea i j
    steps_is (suc k) i j = closed.sum_is _ _ (steps_is k i j) (closed.product_is _ _ (steps_is k i k) (closed.product_is _ _ (stars.star_is _ (steps_is k k k)) (steps_is k k j)))

    -- the loop through k
    loop_is : (k j : ℕ) → d.is_element (d.product (s.star (steps_of d s a k k k)) (steps_of d s a k k j))
    loop_is k j = closed.product_is _ _ (stars.star_is _ (steps_is k k k)) (steps_is k k j)

    turn_is : (k i j : ℕ) → d.is_element (d.product (steps_of d s a k i k) (d.product (s.star (steps_of d s a k k k)) (steps_of d s a k k j)))
    turn_is k i j = closed.product_is _ _ (steps_is k i k) (loop_is k j)

    starts : (k i l : ℕ) → Below d.is_element d.sum (a i l) (steps_of d s a k i l)
    starts zero i l = same closed laws (ea i l)
    starts (suc k) i l = trans closed laws (starts k i l) (left_part closed laws (steps_is k i l) (turn_is k i l))

    turn : (k i l : ℕ) → Below d.is_element d.sum (d.product (steps_of d s a k i k) (d.product (s.star (steps_of d s a k k k)) (steps_of d s a k k l))) (steps_of d s a (suc k) i l)
    turn k i l = right_part closed laws (steps_is k i l) (turn_is k i l)

    -- a first step to a place that was passed
    follows : (k i j l : ℕ) → j < k → Below d.is_element d.sum (d.product (a i j) (steps_of d s a k j l)) (steps_of d s a k i l)
    follows zero i j l h = absurd (omega arith)
    follows (suc k) i j l h = ⊎_elim
        (λ q. let P : ℕ → Type 0 = λ m. Below d.is_element d.sum (d.product (a i m) (steps_of d s a (suc k) m l)) (steps_of d s a (suc k) i l) in subst P (sym q)
        (trans closed laws (at_product closed laws (starts k i k) (star_solved (steps_of d s a k k k) (steps_of d s a k k l) (steps_is k k k) (steps_is k k l))) (turn k i l)))
        (λ m. spread (ea i j) (steps_is k j l) (turn_is k j l)
        (trans closed laws (follows k i j l m) (left_part closed laws (steps_is k i l) (turn_is k i l)))
        (ungroup (ea i j) (steps_is k j k) (loop_is k l)
        (trans closed laws (at_product closed laws (follows k i j k m) (same closed laws (loop_is k l))) (turn k i l))))
        (eq-or-lt_of_le {n = j} {m = k} (omega arith))

    -- no entry leads above a solution
    under : (n : ℕ) (y : ℕ → M) → ((i j : ℕ) → i < n → j < n → Below d.is_element d.sum (d.product (a i j) (y j)) (y i)) → (k i j : ℕ)
        → k < suc n → i < n → j < n → Below d.is_element d.sum (d.product (steps_of d s a k i j) (y j)) (y i)
    under n y h zero i j hk hi hj = h i j hi hj
    under n y h (suc k) i j hk hi hj =
        let here = λ (i j : ℕ) (p : i < n) (q : j < n). under n y h k i j (omega arith) p q in
        let hkn : k < n = omega arith in
        let ey : d.is_element (y j) = (h j j hj hj).high in
        spread_right (steps_is k i j) (turn_is k i j) ey (here i j hi hj)
        (regroup (steps_is k i k) (loop_is k j) ey
        (trans closed laws
        (at_product closed laws (same closed laws (steps_is k i k))
        (regroup (stars.star_is _ (steps_is k k k)) (steps_is k k j) ey
        (star_least (steps_is k k k) (here k k hkn hkn) (here k j hkn hj))))
        (here i k hi hkn)))

    -- ---- one added on the diagonal

    star_of_is : (n i j : ℕ) → d.is_element (star_of d s n a i j)
    star_of_is n i j = elim (eqb i j) as (λ v. d.is_element (cond v (d.sum (steps_of d s a n i j) d.one) (steps_of d s a n i j)))
        [ true ↦ closed.sum_is _ _ (steps_is n i j) closed.one_is | false ↦ steps_is n i j ]

    in_star : (n i j : ℕ) → Below d.is_element d.sum (steps_of d s a n i j) (star_of d s n a i j)
    in_star n i j = elim (eqb i j) as (λ v. Below d.is_element d.sum (steps_of d s a n i j)
        (cond v (d.sum (steps_of d s a n i j) d.one) (steps_of d s a n i j)))
        [ true ↦ left_part closed laws (steps_is n i j) closed.one_is | false ↦ same closed laws (steps_is n i j) ]

    one_in_star : (n i : ℕ) → Below d.is_element d.sum d.one (star_of d s n a i i)
    one_in_star n i =
        let P : Bool → Type 0 = λ v. Below d.is_element d.sum d.one (cond v (d.sum (steps_of d s a n i i) d.one) (steps_of d s a n i i)) in
        subst P (sym (is_itself i)) (right_part closed laws (steps_is n i i) closed.one_is)

    -- what holds of an entry of the star
    by_entry : (n i j : ℕ) (P : M → Type 0) → (j ≡ i → P (d.sum (steps_of d s a n i j) d.one)) → P (steps_of d s a n i j) → P (star_of d s n a i j)
    by_entry n i j P h k = by_test (eqb i j) (λ v. P (cond v (d.sum (steps_of d s a n i j) d.one) (steps_of d s a n i j))) (λ t. h (sym (eqb_true i j t))) k

    star_follows : (n i j l : ℕ) → j < n → Below d.is_element d.sum (d.product (a i j) (star_of d s n a j l)) (star_of d s n a i l)
    star_follows n i j l h =
        let rest : Below d.is_element d.sum (d.product (a i j) (steps_of d s a n j l)) (star_of d s n a i l) = trans closed laws (follows n i j l h) (in_star n i l) in
        by_entry n j l (λ z. Below d.is_element d.sum (d.product (a i j) z) (star_of d s n a i l))
        (λ q. spread (ea i j) (steps_is n j l) closed.one_is rest
        (let P : ℕ → Type 0 = λ m. Below d.is_element d.sum (d.product (a i j) d.one) (star_of d s n a i m) in
        subst P (sym q)
        (trans closed laws (equal closed laws (closed.product_is _ _ (ea i j) closed.one_is) (laws.one_neutral_right (a i j) (ea i j)))
        (trans closed laws (starts n i j) (in_star n i j)))))
        rest

    star_under : (n : ℕ) (y : ℕ → M) (b : M) → ((i j : ℕ) → i < n → j < n → Below d.is_element d.sum (d.product (a i j) (y j)) (y i))
        → (i j : ℕ) → i < n → j < n → Below d.is_element d.sum b (y j) → Below d.is_element d.sum (d.product (star_of d s n a i j) b) (y i)
    star_under n y b h i j hi hj hb =
        let rest : Below d.is_element d.sum (d.product (steps_of d s a n i j) b) (y i) =
        trans closed laws (at_product closed laws (same closed laws (steps_is n i j)) hb) (under n y h n i j (omega arith) hi hj) in
        by_entry n i j (λ z. Below d.is_element d.sum (d.product z b) (y i))
        (λ q. spread_right (steps_is n i j) closed.one_is hb.low rest
        (let P : ℕ → Type 0 = λ m. Below d.is_element d.sum (d.product d.one b) (y m) in
        subst P q (trans closed laws (equal closed laws (closed.product_is _ _ closed.one_is hb.low) (laws.one_neutral_left b hb.low)) hb)))
        rest

    -- ---- columns

    module _ (n : ℕ) (b : ℕ → M) (eb : (i : ℕ) → d.is_element (b i)) where
      column_is : (i : ℕ) → d.is_element (dot d n (star_of d s n a i) b)
      column_is i = total_is d closed laws (λ j. d.product (star_of d s n a i j) (b j)) n (λ j. closed.product_is _ _ (star_of_is n i j) (eb j))

      column_solves : (i : ℕ) → i < n → IsAtMost d.sum (d.sum (dot d n (a i) (λ j. dot d n (star_of d s n a j) b)) (b i)) (dot d n (star_of d s n a i) b)
      column_solves i hi =
          let x : ℕ → M = λ j. dot d n (star_of d s n a j) b in
          let term : (l : ℕ) → l < n → Below d.is_element d.sum (d.product (star_of d s n a i l) (b l)) (x i) =
          λ l hl. term_below d closed laws (λ j. d.product (star_of d s n a i j) (b j)) n l (λ j. closed.product_is _ _ (star_of_is n i j) (eb j)) hl in
          (least_above closed laws
          (total_below d closed laws (λ j. d.product (a i j) (x j)) n (x i) (column_is i) (λ j hj.
          product_total (a i j) (λ l. d.product (star_of d s n a j l) (b l)) n (x i) (ea i j) (column_is i) (λ l. closed.product_is _ _ (star_of_is n j l) (eb l)) (λ l hl.
          ungroup (ea i j) (star_of_is n j l) (eb l) (trans closed laws (at_product closed laws (star_follows n i j l hj) (same closed laws (eb l))) (term l hl)))))
          (trans closed laws (equal closed laws (eb i) (sym (laws.one_neutral_left (b i) (eb i))))
          (trans closed laws (at_product closed laws (one_in_star n i) (same closed laws (eb i))) (term i hi)))).at_most

      column_least : (y : ℕ → M) → ((i : ℕ) → d.is_element (y i))
          → ((i : ℕ) → i < n → IsAtMost d.sum (d.sum (dot d n (a i) y) (b i)) (y i)) → (i : ℕ) → i < n → IsAtMost d.sum (dot d n (star_of d s n a i) b) (y i)
      column_least y ey h i hi =
          let row_is : (i : ℕ) → d.is_element (dot d n (a i) y) = λ i. total_is d closed laws (λ j. d.product (a i j) (y j)) n (λ j. closed.product_is _ _ (ea i j) (ey j)) in
          let whole : (i : ℕ) → i < n → Below d.is_element d.sum (d.sum (dot d n (a i) y) (b i)) (y i) = λ i hi. record { low = closed.sum_is _ _ (row_is i) (eb i); high = ey i; at_most = h i hi } in
          let entry : (i j : ℕ) → i < n → j < n → Below d.is_element d.sum (d.product (a i j) (y j)) (y i) =
          λ i j hi hj. trans closed laws (term_below d closed laws (λ j. d.product (a i j) (y j)) n j
          (λ j. closed.product_is _ _ (ea i j) (ey j)) hj) (trans closed laws (left_part closed laws (row_is i) (eb i)) (whole i hi)) in
          (total_below d closed laws (λ j. d.product (star_of d s n a i j) (b j)) n (y i) (ey i) (λ j hj.
          star_under n y (b j) entry i j hi hj (trans closed laws (right_part closed laws (row_is j) (eb j)) (whole j hj)))).at_most

      -- the column solves with equality: else a x + b would be a lesser solution
      column_equal : (i : ℕ) → i < n → d.sum (dot d n (a i) (λ j. dot d n (star_of d s n a j) b)) (b i) ≡ dot d n (star_of d s n a i) b
      column_equal i hi =
          let x : ℕ → M = λ j. dot d n (star_of d s n a j) b in
          let terms_are : (z : ℕ → M) → ((j : ℕ) → d.is_element (z j)) → (i j : ℕ) → d.is_element (d.product (a i j) (z j)) = λ z ez i j. closed.product_is _ _ (ea i j) (ez j) in
          let row_is : (z : ℕ → M) → ((j : ℕ) → d.is_element (z j)) → (i : ℕ) → d.is_element (dot d n (a i) z) = λ z ez i. total_is d closed laws (λ j. d.product (a i j) (z j)) n (terms_are z ez i) in
          let next : ℕ → M = λ j. d.sum (dot d n (a j) x) (b j) in
          let next_is : (j : ℕ) → d.is_element (next j) = λ j. closed.sum_is _ _ (row_is x column_is j) (eb j) in
          let below : (j : ℕ) → j < n → Below d.is_element d.sum (next j) (x j) = λ j hj. record { low = next_is j; high = column_is j; at_most = column_solves j hj } in
          let rows : (j : ℕ) → Below d.is_element d.sum (dot d n (a j) next) (dot d n (a j) x) = λ j.
          total_below d closed laws (λ l. d.product (a j l) (next l)) n (dot d n (a j) x) (row_is x column_is j) (λ l hl.
          trans closed laws (at_product closed laws (same closed laws (ea j l)) (below l hl)) (term_below d closed laws (λ l. d.product (a j l) (x l)) n l (terms_are x column_is j) hl)) in
          antisym closed laws (below i hi) (record {
            low = column_is i;
            high = next_is i;
            at_most = column_least next next_is (λ j hj. (both closed laws (rows j) (same closed laws (eb j))).at_most) i hi;
          })

  pub stars_are_least : StarsAreLeast d s
  stars_are_least n a b ea eb = (
    star_of_is a ea n,
    record { element = λ i _. column_is a ea n b eb i; solves = column_solves a ea n b eb; equal = column_equal a ea n b eb; least = column_least a ea n b eb },
  )
