-- Where the product of two functions repeats.
use Rattle.std.proofs.Common.{◌≡◌, ap, arith, ℕ, ℤ, zero, suc, ◌+◌, ◌-◌, ◌≤◌, ◌<◌, sym, ◌∙◌, subst, ⊎_elim}
use Rattle.std.specs.Prelude.{◌≤ℤ◌}
use Rattle.std.proofs.Math.Nat.{eq-or-lt_of_le}
use Rattle.std.proofs.lemmas.Bool.{cases_lt}
use Rattle.dioid.specs.Dates.{later_of, date_product, move}
use Rattle.dioid.specs.declared.dates.Date.{Date}
use Rattle.dioid.specs.DateOrder.{Le}
use Rattle.dioid.proofs.AtMost.{le_refl, le_is, le_trans, le_antisym, le_later_left, le_later_right, later_le, move_le, move_further, le_move_over, le_move_back, product_le}
use Rattle.dioid.proofs.Moves.{product_move_left, product_move_right}
use Rattle.series_laws.specs.Periodic.{Rising, Repeats}
use Rattle.series_laws.proofs.Repeating.{repeats_from}
use Rattle.series_laws.specs.Product.{greatest_of_first, product_at}

pub le_greatest : (f : ℕ → Date) (n j : ℕ) → j ≤ n → Le (f j) (greatest_of_first f n)
le_greatest f zero j h = le_is (ap f (omega arith))
le_greatest f (suc n) j h = ⊎_elim
    (λ q. let P : ℕ → Type 0 = λ k. Le (f k) (later_of (greatest_of_first f n) (f (suc n))) in subst P (sym q) (le_later_right (greatest_of_first f n) (f (suc n))))
    (λ l. le_trans (le_greatest f n j (omega arith)) (le_later_left (greatest_of_first f n) (f (suc n))))
    (eq-or-lt_of_le {n = j} {m = suc n} h)

pub greatest_le : (f : ℕ → Date) (n : ℕ) (c : Date) → ((j : ℕ) → j ≤ n → Le (f j) c) → Le (greatest_of_first f n) c
greatest_le f zero c h = h 0 (omega arith)
greatest_le f (suc n) c h = later_le (greatest_le f n c (λ j w. h j (omega arith))) (h (suc n) (omega arith))

pub le_product : (s t : ℕ → Date) (i j k : ℕ) → i + j ≡ k → Le (date_product (s i) (t j)) (product_at s t k)
le_product s t i j k e = let g : k - i ≡ j = omega arith in
    let P : ℕ → Type 0 = λ z. Le (date_product (s i) (t z)) (product_at s t k) in
    subst P g (le_greatest (λ i. date_product (s i) (t (k - i))) k i (omega arith))

pub product_at_le : (s t : ℕ → Date) (k : ℕ) (c : Date) → ((i j : ℕ) → i + j ≡ k → Le (date_product (s i) (t j)) c) → Le (product_at s t k) c
product_at_le s t k c h = greatest_le (λ i. date_product (s i) (t (k - i))) k c (λ i w. h i (k - i) (omega arith))

-- a split made longer in its first or its second part
pub le_product_first : (s t : ℕ → Date) (i j k n : ℕ) (x : ℤ) → i + j ≡ k → s (i + n) ≡ move x (s i) → Le (move x (date_product (s i) (t j))) (product_at s t (k + n))
le_product_first s t i j k n x e g =
    le_trans (le_is (sym (product_move_left x (s i) (t j)) ∙ ap (λ z. date_product z (t j)) (sym g))) (le_product s t (i + n) j (k + n) (omega arith))

pub le_product_second : (s t : ℕ → Date) (i j k n : ℕ) (x : ℤ) → i + j ≡ k → t (j + n) ≡ move x (t j) → Le (move x (date_product (s i) (t j))) (product_at s t (k + n))
le_product_second s t i j k n x e g =
    le_trans (le_is (sym (product_move_right x (s i) (t j)) ∙ ap (date_product (s i)) (sym g))) (le_product s t i (j + n) (k + n) (omega arith))

-- a split whose first part is h made longer, or whose second part is
pub product_first_le : (s t : ℕ → Date) (i h j k : ℕ) (x : ℤ) → h + j ≡ k → s i ≡ move x (s h) → Le (date_product (s i) (t j)) (move x (product_at s t k))
product_first_le s t i h j k x e g = rw (g, product_move_left x (s h) (t j)) (move_le x (le_product s t h j k e))

pub product_second_le : (s t : ℕ → Date) (i j h k : ℕ) (x : ℤ) → i + h ≡ k → t j ≡ move x (t h) → Le (date_product (s i) (t j)) (move x (product_at s t k))
product_second_le s t i j h k x e g = rw (g, product_move_right x (s i) (t h)) (move_le x (le_product s t i h k e))

pub move_product_le : (s t : ℕ → Date) (k : ℕ) (x : ℤ) (c : Date) → ((i j : ℕ) → i + j ≡ k → Le (move x (date_product (s i) (t j))) c) → Le (move x (product_at s t k)) c
move_product_le s t k x c h = le_move_over x (product_at_le s t k _ (λ i j e. le_move_back x (h i j e)))

-- equal slopes
pub product_repeats_equal : (s t : ℕ → Date) (p q n : ℕ) (x : ℤ) → Repeats s p n x → Repeats t q n x → Repeats (product_at s t) (p + q + n) n x
product_repeats_equal s t p q n x a b = record {
  at = λ k w. le_antisym
      (product_at_le s t (k + n) (move x (product_at s t k)) (λ i j e. ⊎_elim
      (λ short. product_second_le s t i j (j - n) k x (omega arith) (repeats_from b j (omega arith)))
      (λ long. product_first_le s t i (i - n) j k x (omega arith) (repeats_from a i long))
      (cases_lt i (p + n))))
      (move_product_le s t k x (product_at s t (k + n)) (λ i j e. ⊎_elim
      (λ short. le_product_second s t i j k n x e (b.at j (omega arith)))
      (λ long. le_product_first s t i j k n x e (a.at i long))
      (cases_lt i p)));
}

-- where g shifts can be moved from the second part to a first part that is short, without loss
pub product_repeats_moved : (s t : ℕ → Date) (p n q g : ℕ) (x : ℤ) → Repeats s p n x → p + n ≤ g
    → ((i j : ℕ) → i < p + n → q ≤ j → Le (date_product (s i) (t (j + g))) (date_product (s (i + g)) (t j)))
    → Repeats (product_at s t) (p + n + q + g) n x
product_repeats_moved s t p n q g x a far better = record {
  at = λ k w. le_antisym
      (product_at_le s t (k + n) (move x (product_at s t k)) (λ i j e. ⊎_elim
      (λ short. le_trans
      (le_trans (le_is (ap (λ z. date_product (s i) (t z)) (omega arith))) (better i (j - g) short (omega arith)))
      (product_first_le s t (i + g) (i + g - n) (j - g) k x (omega arith) (repeats_from a (i + g) (omega arith))))
      (λ long. product_first_le s t i (i - n) j k x (omega arith) (repeats_from a i long))
      (cases_lt i (p + n))))
      (move_product_le s t k x (product_at s t (k + n)) (λ i j e. ⊎_elim
      (λ short. le_trans
      (move_le x (le_trans (le_is (ap (λ z. date_product (s i) (t z)) (omega arith))) (better i (j - g) (omega arith) (omega arith))))
      (le_product_first s t (i + g) (j - g) k n x (omega arith) (a.at (i + g) (omega arith))))
      (λ long. le_product_first s t i j k n x e (a.at i long))
      (cases_lt i p)));
}

-- r shifts lift a short first part into its tail, and the rest gains at least what the second part loses
pub moved_without_loss : (s t : ℕ → Date) (p q r w : ℕ) (x y : ℤ) → Rising s → Repeats s p w x → Repeats t q (r + w) y → p ≤ r → y ≤ℤ x
    → (i j : ℕ) → q ≤ j → Le (date_product (s i) (t (j + (r + w)))) (date_product (s (i + (r + w))) (t j))
moved_without_loss s t p q r w x y up a b far h i j u =
    let lifted : Le (move y (s i)) (s (i + (r + w))) =
    le_trans (le_trans (move_further (s i) h) (move_le x (up.rises i (i + r) (omega arith))))
    (le_is (sym (a.at (i + r) (omega arith)) ∙ ap s (omega arith))) in
    le_trans
    (le_is (ap (date_product (s i)) (b.at j u) ∙ product_move_right y (s i) (t j) ∙ sym (product_move_left y (s i) (t j))))
    (product_le lifted (le_refl (t j)))

-- numbers, the first slope greater: s repeats by v shifts with u times the first step, and so on
pub product_repeats_unequal : (s t : ℕ → Date) (p n q r w : ℕ) (x xw y : ℤ) → Rising s → Repeats s p n x → Repeats s p w xw → Repeats t q (r + w) y
    → p + n ≤ r → y ≤ℤ xw → Repeats (product_at s t) (p + n + q + (r + w)) n x
product_repeats_unequal s t p n q r w x xw y up a aw b far h =
    product_repeats_moved s t p n q (r + w) x a (omega arith) (λ i j _ u. moved_without_loss s t p q r w xw y up aw b (omega arith) h i j u)
