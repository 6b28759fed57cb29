-- The laws of a dioid, of its stars and of its residuals, of functions.
use Rattle.std.proofs.Common.{◌≡◌, refl, ap, arith, ℕ, pos, negsuc, zero, suc, ◌+◌, ◌≤◌, ◌+ℤ◌, sym, ◌∙◌, ⊎_elim, ◌⊎◌, inl, inr, List, [], ◌∷◌}
use Rattle.std.specs.Prelude.{◌≤ℤ◌}
use Rattle.std.proofs.lemmas.Int.{ints}
use Rattle.dioid.specs.Dates.{later_of, date_product, date_left}
use Rattle.dioid.specs.Proved.DateLaws.{times_assoc, times_later, one_times, times_one}
use Rattle.dioid.specs.declared.dates.Date.{Date}
use Rattle.dioid.specs.declared.dates.Date.TheVariants.{Early, At, Never}
use Rattle.dioid.specs.DateOrder.{Le}
use Rattle.dioid.proofs.AtMost.{le_refl, le_is, le_trans, le_antisym, early_le, le_never, product_le, later_le, le_later_left, le_later_right}
use Rattle.series_laws.specs.Periodic.{Rising}
use Rattle.series_laws.specs.Pointwise.{sum_at}
use Rattle.series_laws.specs.Product.{product_at}
use Rattle.series_laws.proofs.ProductsRepeat.{le_product, product_at_le}
use Rattle.series_laws.specs.SeriesStars.{total_of_parts, sum_of_values}
use Rattle.series_laws.proofs.StarParts.{to_left, from_left, parts_star_is, part_more}
use Rattle.series_laws.specs.StarOf.{parts_star, star_by, star_at}
use Rattle.series_laws.proofs.Items.{times_commutes}

-- ---- laws of functions at a shift

pub product_assoc_half : (s t u : ℕ → Date) (k : ℕ) → Le (product_at (product_at s t) u k) (product_at s (product_at t u) k)
product_assoc_half s t u k = product_at_le (product_at s t) u k (product_at s (product_at t u) k) (λ m c e.
    le_trans (le_is (times_commutes (product_at s t m) (u c))) (from_left (u c) (product_at_le s t m (date_left (u c) (product_at s (product_at t u) k)) (λ i j g.
    to_left (u c) (le_trans (le_is (times_commutes (u c) (date_product (s i) (t j)) ∙ times_assoc (s i) (t j) (u c)))
    (le_trans (product_le (le_refl (s i)) (le_product t u j c (j + c) refl)) (le_product s (product_at t u) i (j + c) k (omega arith))))))))

pub product_assoc_back : (s t u : ℕ → Date) (k : ℕ) → Le (product_at s (product_at t u) k) (product_at (product_at s t) u k)
product_assoc_back s t u k = product_at_le s (product_at t u) k (product_at (product_at s t) u k) (λ i m e.
    from_left (s i) (product_at_le t u m (date_left (s i) (product_at (product_at s t) u k)) (λ j c g.
    to_left (s i) (le_trans (le_is (sym (times_assoc (s i) (t j) (u c))))
    (le_trans (product_le (le_product s t i j (i + j) refl) (le_refl (u c))) (le_product (product_at s t) u (i + j) c k (omega arith)))))))

pub product_assoc : (s t u : ℕ → Date) (k : ℕ) → product_at (product_at s t) u k ≡ product_at s (product_at t u) k
product_assoc s t u k = le_antisym (product_assoc_half s t u k) (product_assoc_back s t u k)

pub product_sum : (s t u : ℕ → Date) (k : ℕ) → product_at s (sum_at t u) k ≡ later_of (product_at s t k) (product_at s u k)
product_sum s t u k = le_antisym
    (product_at_le s (sum_at t u) k (later_of (product_at s t k) (product_at s u k)) (λ i j e. le_trans (le_is (times_later (s i) (t j) (u j)))
    (later_le (le_trans (le_product s t i j k e) (le_later_left (product_at s t k) (product_at s u k))) (le_trans (le_product s u i j k e) (le_later_right (product_at s t k) (product_at s u k))))))
    (later_le
    (product_at_le s t k (product_at s (sum_at t u) k) (λ i j e. le_trans (product_le (le_refl (s i)) (le_later_left (t j) (u j))) (le_product s (sum_at t u) i j k e)))
    (product_at_le s u k (product_at s (sum_at t u) k) (λ i j e. le_trans (product_le (le_refl (s i)) (le_later_right (t j) (u j))) (le_product s (sum_at t u) i j k e))))

pub one_product : (s t : ℕ → Date) → ((k : ℕ) → s k ≡ At (pos 0)) → Rising t → (k : ℕ) → product_at s t k ≡ t k
one_product s t h up k = le_antisym
    (product_at_le s t k (t k) (λ i j e. le_trans (le_is (ap (λ z. date_product z (t j)) (h i) ∙ one_times (t j))) (up.rises j k (omega arith))))
    (le_trans (le_is (sym (ap (λ z. date_product z (t k)) (h 0) ∙ one_times (t k)))) (le_product s t 0 k k (omega arith)))

-- ---- the star is a least solution

pub star_zero : (s : ℕ → Date) (k : ℕ) → Le (At (pos 0)) (star_at s k)
star_zero s k = cases (s 0) where
  cases : (d : Date) → Le (At (pos 0)) (star_by d s k)
  cases Early = (parts_star_is s k).zero_below
  cases (At (pos zero)) = (parts_star_is s k).zero_below
  cases (At (pos (suc n))) = le_never (At (pos 0))
  cases (At (negsuc n)) = (parts_star_is s k).zero_below
  cases Never = le_never (At (pos 0))

pub star_more : (s : ℕ → Date) → Rising s → (i j k : ℕ) → i + j ≡ k → Le (date_product (s i) (star_at s j)) (star_at s k)
star_more s up i j k e = cases (s 0) refl where
  parts : Le (s 0) (At (pos 0)) → (i : ℕ) → i + j ≡ k → Le (date_product (s i) (parts_star s j)) (parts_star s k)
  parts low zero e = le_trans (product_le low (le_refl (parts_star s j))) (le_is (one_times (parts_star s j) ∙ ap (parts_star s) (let h : j ≡ k = omega arith in h)))
  parts low (suc i) e = part_more s up (suc i) j k (omega arith) e

  cases : (d : Date) → s 0 ≡ d → Le (date_product (s i) (star_by d s j)) (star_by d s k)
  cases Early h = parts (le_trans (le_is h) (early_le (At (pos 0)))) i e
  cases (At (pos zero)) h = parts (le_is h) i e
  cases (At (pos (suc n))) h = le_never (date_product (s i) Never)
  cases (At (negsuc n)) h = parts (le_trans (le_is h) (record { holds = omega (arith, ints) })) i e
  cases Never h = le_never (date_product (s i) Never)

pub star_solves : (s b : ℕ → Date) → Rising s → (k : ℕ) → Le (later_of (product_at s (product_at (star_at s) b) k) (b k)) (product_at (star_at s) b k)
star_solves s b up k = later_le
    (le_trans (product_assoc_back s (star_at s) b k)
    (product_at_le (product_at s (star_at s)) b k (product_at (star_at s) b k) (λ m c e.
    le_trans (product_le (product_at_le s (star_at s) m (star_at s m) (λ i j g. star_more s up i j m g)) (le_refl (b c))) (le_product (star_at s) b m c k e))))
    (le_trans (le_is (sym (one_times (b k)))) (le_trans (product_le (star_zero s 0) (le_refl (b k))) (le_product (star_at s) b 0 k k (omega arith))))

module _ (s b x : ℕ → Date) (up : Rising x) (solves : (k : ℕ) → Le (later_of (product_at s x k) (b k)) (x k)) where
  at_b : (k : ℕ) → Le (b k) (x k)
  at_b k = le_trans (le_later_right (product_at s x k) (b k)) (solves k)

  at_s : (i j k : ℕ) → i + j ≡ k → Le (date_product (s i) (x j)) (x k)
  at_s i j k e = le_trans (le_product s x i j k e) (le_trans (le_later_left (product_at s x k) (b k)) (solves k))

  list_solves : (l : List ℕ) (j k : ℕ) → total_of_parts l + j ≡ k → Le (date_product (sum_of_values s l) (b j)) (x k)
  list_solves [] j k e = le_trans (le_is (one_times (b j))) (le_trans (at_b j) (up.rises j k (omega arith)))
  list_solves (c ∷ l) j k e =
      le_trans (le_is (times_assoc (s c) (sum_of_values s l) (b j)))
      (le_trans (product_le (le_refl (s c)) (list_solves l j (total_of_parts l + j) refl)) (at_s c (total_of_parts l + j) k (omega arith)))

  parts_least : (i j k : ℕ) → i + j ≡ k → Le (date_product (parts_star s i) (b j)) (x k)
  parts_least i j k e =
      let y : Date = date_left (b j) (x k) in
      le_trans (le_is (times_commutes (parts_star s i) (b j))) (from_left (b j) ((parts_star_is s i).least y
      (to_left (b j) (le_trans (le_is (times_one (b j))) (le_trans (at_b j) (up.rises j k (omega arith)))))
      (λ l a g. to_left (b j) (le_trans (le_is (times_commutes (b j) (sum_of_values s l))) (list_solves l j k (omega arith))))))

  -- where the first value is above 0
  never_least : (s 0 ≡ Never) ⊎ ((n : ℕ) × (s 0 ≡ At (pos (suc n)))) → (j k : ℕ) → j ≤ k → Le (date_product Never (b j)) (x k)
  never_least above j k w = by_b (b j) (x j) refl refl where
    full : x j ≡ Never → Le (date_product Never (b j)) (x k)
    full e = le_trans (le_never (date_product Never (b j))) (le_trans (le_is (sym e)) (up.rises j k w))

    again : Le (date_product (s 0) (x j)) (x j)
    again = at_s 0 j j (omega arith)

    by_x : (d : Date) → x j ≡ d → (b j ≡ Early → ⊥) → Le (date_product Never (b j)) (x k)
    by_x Early e some = absurd (some (le_antisym (le_trans (at_b j) (le_is e)) (early_le (b j))))
    by_x (At v) e some = absurd (⊎_elim
        (λ never. let h : Le Never (At v) = le_trans (le_is (sym (ap (λ z. date_product z (x j)) never ∙ ap (date_product Never) e))) (le_trans again (le_is e)) in h.holds)
        (λ number. let h : Le (At (pos (suc number.0) +ℤ v)) (At v) =
        le_trans (le_is (sym (ap (λ z. date_product z (x j)) number.1 ∙ ap (date_product (At (pos (suc number.0)))) e))) (le_trans again (le_is e)) in
        let q : (pos (suc number.0) +ℤ v) ≤ℤ v = h.holds in absurd (omega (arith, ints)))
        above)
    by_x Never e some = full e

    by_b : (d y : Date) → b j ≡ d → x j ≡ y → Le (date_product Never (b j)) (x k)
    by_b Early y e g = le_trans (le_is (ap (date_product Never) e)) (early_le (x k))
    by_b (At v) y e g = by_x y g (λ h. let c : At v ≡ Early = sym e ∙ h in cc)
    by_b Never y e g = by_x y g (λ h. let c : Never ≡ Early = sym e ∙ h in cc)

  pub star_least : (k : ℕ) → Le (product_at (star_at s) b k) (x k)
  star_least k = product_at_le (star_at s) b k (x k) (λ i j e. cases (s 0) refl i j e) where
    cases : (d : Date) → s 0 ≡ d → (i j : ℕ) → i + j ≡ k → Le (date_product (star_by d s i) (b j)) (x k)
    cases Early h i j e = parts_least i j k e
    cases (At (pos zero)) h i j e = parts_least i j k e
    cases (At (pos (suc n))) h i j e = never_least (inr (n, h)) j k (omega arith)
    cases (At (negsuc n)) h i j e = parts_least i j k e
    cases Never h i j e = never_least (inl h) j k (omega arith)
