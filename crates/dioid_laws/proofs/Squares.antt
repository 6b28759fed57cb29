-- The square matrices over a dioid are a dioid.
use Rattle.std.proofs.Common.{◌≡◌, ◌⊎◌, ℕ, ◌<◌, ◌≤◌, Bool, true, false, cond, eqb, ltb, refl, ap, sym, ◌∙◌, arith, subst, ⊎_elim, inl, inr}
use Rattle.std.proofs.lemmas.Bool.{cases_lt}
use Rattle.std.proofs.lemmas.Bool.Decides.{nat_tests}
use Rattle.dioid.specs.DioidAxioms.{IsAtMost, IsClosed, DioidLaws}
use Rattle.dioid.specs.declared.algebra.Dioid.{Ghosts as DioidOf}
use Rattle.dioid_matrix.specs.Sums.{total_of_first, dot}
use Rattle.dioid_laws.specs.SquareMatrices.{IsSquare, cut, square_zero, square_one, square_sum, square_product, SquaresAreDioid}
use Rattle.dioid_matrix.proofs.Order.{total_is}
use Rattle.dioid_laws.proofs.Totals.{total_same, total_none, total_one, times_total, total_times, total_sum, total_turned}

either_way : {M : Type 0} (t : Bool) (x : M) → cond t x x ≡ x
either_way true x = refl
either_way false x = refl

module _ {M : Type 0} (d : DioidOf M) (n : ℕ) where
  pub cut_in : (f : ℕ → ℕ → M) (i j : ℕ) → i < n → j < n → cut d n f i j ≡ f i j
  cut_in f i j hi hj =
      let p : ltb i n ≡ true = grind (arith, nat_tests) in
      let q : ltb j n ≡ true = grind (arith, nat_tests) in
      rw (p, q) refl

  cut_below : (f : ℕ → ℕ → M) (i j : ℕ) → n ≤ i → cut d n f i j ≡ d.zero
  cut_below f i j h = let p : ltb i n ≡ false = grind (arith, nat_tests) in rw p refl

  cut_beside : (f : ℕ → ℕ → M) (i j : ℕ) → n ≤ j → cut d n f i j ≡ d.zero
  cut_beside f i j h = let p : ltb j n ≡ false = grind (arith, nat_tests) in rw p (either_way (ltb i n) d.zero)

  pub cut_out : (f : ℕ → ℕ → M) (i j : ℕ) → (n ≤ i) ⊎ (n ≤ j) → cut d n f i j ≡ d.zero
  cut_out f i j h = ⊎_elim (cut_below f i j) (cut_beside f i j) h

  -- a place is within or outside
  pub by_place : (i j : ℕ) (P : Type 0) → (i < n → j < n → P) → ((n ≤ i) ⊎ (n ≤ j) → P) → P
  by_place i j P h k = ⊎_elim (λ (p : i < n). ⊎_elim (λ (q : j < n). h p q) (λ (q : n ≤ j). k (inr q)) (cases_lt j n)) (λ (p : n ≤ i). k (inl p)) (cases_lt i n)

  pub cut_by : (f : ℕ → ℕ → M) (i j : ℕ) (P : M → Type 0) → (i < n → j < n → P (f i j)) → P d.zero → P (cut d n f i j)
  cut_by f i j P h k = by_place i j (P (cut d n f i j)) (λ p q. subst P (sym (cut_in f i j p q)) (h p q)) (λ o. subst P (sym (cut_out f i j o)) k)

  module _ (closed : IsClosed d.is_element d.zero d.one d.sum d.product) (laws : DioidLaws d.is_element d.zero d.one d.sum d.product) where
    pub cut_is : (f : ℕ → ℕ → M) → ((i j : ℕ) → d.is_element (f i j)) → IsSquare d n (cut d n f)
    cut_is f e = record { elements = λ i j. cut_by f i j d.is_element (λ p q. e i j) closed.zero_is; outside = cut_out f }

    -- squares with the same entries are one
    pub by_entries : (a b : ℕ → ℕ → M) → IsSquare d n a → IsSquare d n b → ((i j : ℕ) → i < n → j < n → a i j ≡ b i j) → a ≡ b
    by_entries a b sa sb h =
        let each : (i j : ℕ) → a i j ≡ b i j = λ i j. by_place i j (a i j ≡ b i j) (h i j) (λ o. sa.outside i j o ∙ sym (sb.outside i j o)) in
        λ t i j. each i j t

    -- one is at most another where each entry is, and back
    pub squares_at_most : (a b : ℕ → ℕ → M) → IsSquare d n a → IsSquare d n b → ((i j : ℕ) → i < n → j < n → IsAtMost d.sum (a i j) (b i j)) → IsAtMost (square_sum d) a b
    squares_at_most a b sa sb h =
        let none : (i j : ℕ) → (n ≤ i) ⊎ (n ≤ j) → d.sum (a i j) (b i j) ≡ b i j = λ i j o.
        ap (λ z. d.sum z (b i j)) (sa.outside i j o) ∙ laws.zero_neutral (b i j) (sb.elements i j) in
        let each : (i j : ℕ) → d.sum (a i j) (b i j) ≡ b i j = λ i j. by_place i j (d.sum (a i j) (b i j) ≡ b i j) (h i j) (none i j) in
        λ t i j. each i j t

    pub entries_at_most : (a b : ℕ → ℕ → M) → IsAtMost (square_sum d) a b → (i j : ℕ) → IsAtMost d.sum (a i j) (b i j)
    entries_at_most a b h i j = ap (λ (z : ℕ → ℕ → M). z i j) h

    -- ---- closed

    terms_are : (a b : ℕ → ℕ → M) → IsSquare d n a → IsSquare d n b → (i k j : ℕ) → d.is_element (d.product (a i j) (b j k))
    terms_are a b sa sb i k j = closed.product_is (a i j) (b j k) (sa.elements i j) (sb.elements j k)

    pub products_are : (a b : ℕ → ℕ → M) → IsSquare d n a → IsSquare d n b → IsSquare d n (square_product d n a b)
    products_are a b sa sb = record {
      elements = λ i k. total_is d closed laws (λ j. d.product (a i j) (b j k)) n (terms_are a b sa sb i k);
      outside = λ i k o. total_none d closed laws (λ j. d.product (a i j) (b j k)) n (λ j l. ⊎_elim
          (λ (p : n ≤ i). ap (λ z. d.product z (b j k)) (sa.outside i j (inl p)) ∙ laws.zero_absorbs_left (b j k) (sb.elements j k))
          (λ (p : n ≤ k). ap (d.product (a i j)) (sb.outside j k (inr p)) ∙ laws.zero_absorbs_right (a i j) (sa.elements i j))
          o);
    }

    pub sums_are : (a b : ℕ → ℕ → M) → IsSquare d n a → IsSquare d n b → IsSquare d n (square_sum d a b)
    sums_are a b sa sb = record {
      elements = λ i j. closed.sum_is (a i j) (b i j) (sa.elements i j) (sb.elements i j);
      outside = λ i j o. ap (λ z. d.sum z (b i j)) (sa.outside i j o) ∙ laws.zero_neutral (b i j) (sb.elements i j) ∙ sb.outside i j o;
    }

    one_entry_is : (i j : ℕ) → d.is_element (cond (eqb i j) d.one d.zero)
    one_entry_is i j = elim (eqb i j) as (λ v. d.is_element (cond v d.one d.zero)) [ true ↦ closed.one_is | false ↦ closed.zero_is ]

    one_is : IsSquare d n (square_one d n)
    one_is = cut_is (λ i j. cond (eqb i j) d.one d.zero) one_entry_is

    squares_closed : IsClosed (IsSquare d n) (square_zero d) (square_one d n) (square_sum d) (square_product d n)
    squares_closed = record {
      zero_is = record { elements = λ i j. closed.zero_is; outside = λ i j o. refl };
      one_is = one_is;
      sum_is = sums_are;
      product_is = products_are;
    }

    -- ---- the unit

    on_diagonal : (i : ℕ) → i < n → square_one d n i i ≡ d.one
    on_diagonal i hi = let p : eqb i i ≡ true = grind (arith, nat_tests) in cut_in (λ i j. cond (eqb i j) d.one d.zero) i i hi hi ∙ ap (λ v. cond v d.one d.zero) p

    off_diagonal : (i j : ℕ) → (i ≡ j → ⊥) → square_one d n i j ≡ d.zero
    off_diagonal i j h =
        let p : eqb i j ≡ false = grind (arith, nat_tests) in
        cut_by (λ i j. cond (eqb i j) d.one d.zero) i j (λ z. z ≡ d.zero) (λ hi hj. ap (λ v. cond v d.one d.zero) p) refl

    one_times : (a : ℕ → ℕ → M) → IsSquare d n a → square_product d n (square_one d n) a ≡ a
    one_times a sa = by_entries (square_product d n (square_one d n) a) a (products_are (square_one d n) a one_is sa) sa (λ i k hi hk.
        total_one d closed laws (λ j. d.product (square_one d n i j) (a j k)) n i hi (terms_are (square_one d n) a one_is sa i k)
        (λ j q. ap (λ z. d.product z (a j k)) (off_diagonal i j (λ e. q (sym e))) ∙ laws.zero_absorbs_left (a j k) (sa.elements j k))
        ∙ ap (λ z. d.product z (a i k)) (on_diagonal i hi) ∙ laws.one_neutral_left (a i k) (sa.elements i k))

    times_one : (a : ℕ → ℕ → M) → IsSquare d n a → square_product d n a (square_one d n) ≡ a
    times_one a sa = by_entries (square_product d n a (square_one d n)) a (products_are a (square_one d n) sa one_is) sa (λ i k hi hk.
        total_one d closed laws (λ j. d.product (a i j) (square_one d n j k)) n k hk (terms_are a (square_one d n) sa one_is i k)
        (λ j q. ap (d.product (a i j)) (off_diagonal j k q) ∙ laws.zero_absorbs_right (a i j) (sa.elements i j))
        ∙ ap (d.product (a i k)) (on_diagonal k hk) ∙ laws.one_neutral_right (a i k) (sa.elements i k))

    -- ---- products

    assoc : (a b c : ℕ → ℕ → M) → IsSquare d n a → IsSquare d n b → IsSquare d n c → (i k : ℕ) → square_product d n (square_product d n a b) c i k ≡ square_product d n a (square_product d n b c) i k
    assoc a b c sa sb sc i k =
        let both : ℕ → ℕ → M = λ l j. d.product (a i j) (d.product (b j l) (c l k)) in
        total_same d closed laws (λ l. d.product (dot d n (a i) (λ j. b j l)) (c l k)) (λ l. total_of_first d (both l) n) n
        (λ l hl. total_times d closed laws (λ j. d.product (a i j) (b j l)) n (c l k) (terms_are a b sa sb i l) (sc.elements l k)
        ∙ total_same d closed laws (λ j. d.product (d.product (a i j) (b j l)) (c l k)) (both l) n
        (λ j hj. laws.product_assoc (a i j) (b j l) (c l k) (sa.elements i j) (sb.elements j l) (sc.elements l k)))
        ∙ total_turned d closed laws both n n (λ l j. closed.product_is (a i j) (d.product (b j l) (c l k)) (sa.elements i j) (terms_are b c sb sc j k l))
        ∙ total_same d closed laws (λ j. total_of_first d (λ l. both l j) n) (λ j. d.product (a i j) (dot d n (b j) (λ l. c l k))) n
        (λ j hj. sym (times_total d closed laws (a i j) (λ l. d.product (b j l) (c l k)) n (sa.elements i j) (terms_are b c sb sc j k)))

    left_spread : (a b c : ℕ → ℕ → M) → IsSquare d n a → IsSquare d n b → IsSquare d n c → (i k : ℕ)
        → square_product d n a (square_sum d b c) i k ≡ d.sum (square_product d n a b i k) (square_product d n a c i k)
    left_spread a b c sa sb sc i k =
        total_same d closed laws (λ j. d.product (a i j) (d.sum (b j k) (c j k))) (λ j. d.sum (d.product (a i j) (b j k)) (d.product (a i j) (c j k))) n
        (λ j hj. laws.left_distributes (a i j) (b j k) (c j k) (sa.elements i j) (sb.elements j k) (sc.elements j k))
        ∙ total_sum d closed laws (λ j. d.product (a i j) (b j k)) (λ j. d.product (a i j) (c j k)) n (terms_are a b sa sb i k) (terms_are a c sa sc i k)

    right_spread : (a b c : ℕ → ℕ → M) → IsSquare d n a → IsSquare d n b → IsSquare d n c → (i k : ℕ)
        → square_product d n (square_sum d a b) c i k ≡ d.sum (square_product d n a c i k) (square_product d n b c i k)
    right_spread a b c sa sb sc i k =
        total_same d closed laws (λ j. d.product (d.sum (a i j) (b i j)) (c j k)) (λ j. d.sum (d.product (a i j) (c j k)) (d.product (b i j) (c j k))) n
        (λ j hj. laws.right_distributes (a i j) (b i j) (c j k) (sa.elements i j) (sb.elements i j) (sc.elements j k))
        ∙ total_sum d closed laws (λ j. d.product (a i j) (c j k)) (λ j. d.product (b i j) (c j k)) n (terms_are a c sa sc i k) (terms_are b c sb sc i k)

    squares_lawful : DioidLaws (IsSquare d n) (square_zero d) (square_one d n) (square_sum d) (square_product d n)
    squares_lawful = record {
      sum_assoc = λ a b c sa sb sc. λ t i j. laws.sum_assoc (a i j) (b i j) (c i j) (sa.elements i j) (sb.elements i j) (sc.elements i j) t;
      sum_commutes = λ a b sa sb. λ t i j. laws.sum_commutes (a i j) (b i j) (sa.elements i j) (sb.elements i j) t;
      sum_idempotent = λ a sa. λ t i j. laws.sum_idempotent (a i j) (sa.elements i j) t;
      product_assoc = λ a b c sa sb sc. λ t i k. assoc a b c sa sb sc i k t;
      left_distributes = λ a b c sa sb sc. λ t i k. left_spread a b c sa sb sc i k t;
      right_distributes = λ a b c sa sb sc. λ t i k. right_spread a b c sa sb sc i k t;
      zero_neutral = λ a sa. λ t i j. laws.zero_neutral (a i j) (sa.elements i j) t;
      zero_absorbs_left = λ a sa. λ t i k. total_none d closed laws (λ j. d.product d.zero (a j k)) n (λ j hj. laws.zero_absorbs_left (a j k) (sa.elements j k)) t;
      zero_absorbs_right = λ a sa. λ t i k. total_none d closed laws (λ j. d.product (a i j) d.zero) n (λ j hj. laws.zero_absorbs_right (a i j) (sa.elements i j)) t;
      one_neutral_left = one_times;
      one_neutral_right = times_one;
    }

    pub squares_are_dioid : SquaresAreDioid d n
    squares_are_dioid = record { closed = squares_closed; laws = squares_lawful }
