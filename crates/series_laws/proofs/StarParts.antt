-- The star by powers, and by its first part.
use Rattle.std.proofs.Common.{◌≡◌, refl, ap, arith, ℕ, ℤ, pos, negsuc, zero, suc, ◌+◌, ◌-◌, ◌≤◌, ◌<◌, sym, ◌∙◌, ⊎_elim, ◌⊎◌, inl, inr, List, [], ◌∷◌, length}
use Rattle.std.specs.Int.{int_max}
use Rattle.std.proofs.lemmas.Int.{ints, clamps, by_lt_z}
use Rattle.dioid.specs.Dates.{later_of, date_product, date_left}
use Rattle.dioid.specs.Proved.DateLaws.{times_early, one_times, times_one, date_galois, later_times}
use Rattle.dioid.specs.declared.dates.Date.{Date}
use Rattle.dioid.specs.declared.dates.Date.TheVariants.{Early, At, Never}
use Rattle.dioid.specs.DateOrder.{Le}
use Rattle.dioid.proofs.AtMost.{le_refl, le_is, le_trans, le_antisym, early_le, product_le, later_le, le_later_left, le_later_right}
use Rattle.series_laws.specs.Periodic.{Rising}
use Rattle.series_laws.specs.Product.{greatest_of_first}
use Rattle.series_laws.proofs.ProductsRepeat.{le_greatest, greatest_le, le_product, product_at_le}
use Rattle.series_laws.specs.SeriesStars.{total_of_parts, sum_of_values, ArePositive, IsStarAt}
use Rattle.series_laws.specs.StarOf.{positive_part, power_at, parts_star, star_by, star_at, from_one, with_one, first_parts, IsGreatestStarSum, IsStarBy, IsStarOf}

pub to_left : (a : Date) {x b : Date} → Le (date_product a x) b → Le x (date_left a b)
to_left a {x} {b} h = le_trans (le_later_left x (date_left a b)) (le_is ((date_galois a x b).0 (le_antisym (later_le h (le_refl b)) (le_later_right (date_product a x) b))))

pub from_left : (a : Date) {x b : Date} → Le x (date_left a b) → Le (date_product a x) b
from_left a {x} {b} h = le_trans (le_later_left (date_product a x) b) (le_is ((date_galois a x b).1 (le_antisym (later_le h (le_refl (date_left a b))) (le_later_right x (date_left a b)))))

parts_below_power : (s : ℕ → Date) (l : List ℕ) (k : ℕ) → ArePositive l → total_of_parts l ≡ k → Le (sum_of_values s l) (power_at s (length l) k)
parts_below_power s [] zero a e = le_refl (At (pos 0))
parts_below_power s [] (suc k) a e = absurd (omega arith)
parts_below_power s (zero ∷ l) k a e = absurd (let h : 0 < 0 = a.0 in omega arith)
parts_below_power s (suc c ∷ l) k a e =
    le_trans (product_le (le_refl (s (suc c))) (parts_below_power s l (total_of_parts l) a.1 refl)) (le_product (positive_part s) (power_at s (length l)) (suc c) (total_of_parts l) k e)

power_below : (s : ℕ → Date) (m k : ℕ) (y : Date) → ((l : List ℕ) → ArePositive l → total_of_parts l ≡ k → Le (sum_of_values s l) y) → Le (power_at s m k) y
power_below s zero zero y h = h [] tt refl
power_below s zero (suc k) y h = early_le y
power_below s (suc m) k y h = product_at_le (positive_part s) (power_at s m) k y (λ i j e. by_part i j e (λ z g. power_below s m j z g)) where
  by_part : (i j : ℕ) → i + j ≡ k → ((z : Date) → ((l : List ℕ) → ArePositive l → total_of_parts l ≡ j → Le (sum_of_values s l) z)
      → Le (power_at s m j) z) → Le (date_product (positive_part s i) (power_at s m j)) y
  by_part zero j e rest = early_le y
  by_part (suc c) j e rest = from_left (s (suc c)) (rest (date_left (s (suc c)) y) (λ l a g. to_left (s (suc c)) (h (suc c ∷ l) (omega arith, a) (omega arith))))

length_total : (l : List ℕ) → ArePositive l → length l ≤ total_of_parts l
length_total [] a = omega arith
length_total (c ∷ l) a = let e : length l ≤ total_of_parts l = length_total l a.1 in let h : 0 < c = a.0 in omega arith

pub parts_star_is : (s : ℕ → Date) (k : ℕ) → IsStarAt s k (parts_star s k)
parts_star_is s k = record {
  zero_below = le_later_left (At (pos 0)) (greatest_of_first (λ m. power_at s m k) k);
  below = λ l a e. le_trans (parts_below_power s l k a e)
      (le_trans (le_greatest (λ m. power_at s m k) k (length l) (let h : length l ≤ total_of_parts l = length_total l a in omega arith))
      (le_later_right (At (pos 0)) (greatest_of_first (λ m. power_at s m k) k)));
  least = λ y z h. later_le z (greatest_le (λ m. power_at s m k) k y (λ m _. power_below s m k y h));
}

-- ---- lists grow

-- a part put before
pub part_more : (s : ℕ → Date) → Rising s → (c j k : ℕ) → 0 < c → c + j ≡ k → Le (date_product (s c) (parts_star s j)) (parts_star s k)
part_more s up c j k h e = from_left (s c) ((parts_star_is s j).least (date_left (s c) (parts_star s k))
    (to_left (s c) (le_trans (le_is (times_one (s c)))
    (le_trans (up.rises c k (omega arith)) (le_trans (le_is (sym (times_one (s k)))) ((parts_star_is s k).below (k ∷ []) (omega arith, tt) (omega arith))))))
    (λ l a g. to_left (s c) ((parts_star_is s k).below (c ∷ l) (h, a) (omega arith))))

pub star_rises : (s : ℕ → Date) → Rising s → (j k : ℕ) → j ≤ k → Le (parts_star s j) (parts_star s k)
star_rises s up j k w = (parts_star_is s j).least (parts_star s k) ((parts_star_is s k).zero_below) (longer) where
  longer : (l : List ℕ) → ArePositive l → total_of_parts l ≡ j → Le (sum_of_values s l) (parts_star s k)
  longer [] a e = (parts_star_is s k).zero_below
  longer (c ∷ l) a e = le_trans (product_le (up.rises c (c + (k - j)) (omega arith)) (le_refl (sum_of_values s l)))
      ((parts_star_is s k).below ((c + (k - j)) ∷ l) (let h : 0 < c = a.0 in omega arith, a.1) (omega arith))

-- Its star is that of s: each list is at most the star of s.
pub list_below : (s : ℕ → Date) → Rising s → (l : List ℕ) (k : ℕ) → ArePositive l → total_of_parts l ≡ k → Le (sum_of_values (with_one s) l) (parts_star s k)
list_below s up [] k a e = (parts_star_is s k).zero_below
list_below s up (zero ∷ l) k a e = absurd (let h : 0 < 0 = a.0 in omega arith)
list_below s up (suc c ∷ l) k a e =
    le_trans (product_le (le_refl (with_one s (suc c))) (list_below s up l (total_of_parts l) a.1 refl))
    (le_trans (le_is (later_times (s (suc c)) (At (pos 0)) (parts_star s (total_of_parts l))))
    (later_le (part_more s up (suc c) (total_of_parts l) k (omega arith) e)
    (le_trans (le_is (one_times (parts_star s (total_of_parts l)))) (star_rises s up (total_of_parts l) k (omega arith)))))

dates_below : (s t : ℕ → Date) → ((k : ℕ) → Le (s k) (t k)) → (l : List ℕ) → Le (sum_of_values s l) (sum_of_values t l)
dates_below s t h [] = le_refl (At (pos 0))
dates_below s t h (c ∷ l) = product_le (h c) (dates_below s t h l)

pub with_one_is : (s : ℕ → Date) → Rising s → (k : ℕ) → IsStarAt (with_one s) k (parts_star s k)
with_one_is s up k = record {
  zero_below = (parts_star_is s k).zero_below;
  below = λ l a e. list_below s up l k a e;
  least = λ y z h. (parts_star_is s k).least y z (λ l a e. le_trans (dates_below s (with_one s) (λ j. le_later_left (s j) (from_one j)) l) (h l a e));
}

-- ---- the star by its first part, as a table computes it

pub first_parts_is : (s star : ℕ → Date) → Rising s → (k : ℕ) → ((j : ℕ) → j < k → IsStarAt s j (star j)) → IsStarAt s k (first_parts s star k)
first_parts_is s star up zero old = record { zero_below = le_refl (At (pos 0)); below = below; least = λ y z h. z } where
  below : (l : List ℕ) → ArePositive l → total_of_parts l ≡ 0 → Le (sum_of_values s l) (At (pos 0))
  below [] a e = le_refl (At (pos 0))
  below (c ∷ l) a e = absurd (let h : 0 < c = a.0 in omega arith)
first_parts_is s star up (suc k) old = record { zero_below = le_later_left (At (pos 0)) (greatest_of_first (λ c. date_product (s (suc c)) (star (k - c))) k); below = below; least = least } where
  f : ℕ → Date
  f = λ c. date_product (s (suc c)) (star (k - c))

  below : (l : List ℕ) → ArePositive l → total_of_parts l ≡ suc k → Le (sum_of_values s l) (first_parts s star (suc k))
  below [] a e = le_later_left (At (pos 0)) (greatest_of_first (λ c. date_product (s (suc c)) (star (k - c))) k)
  below (zero ∷ l) a e = absurd (let h : 0 < 0 = a.0 in omega arith)
  below (suc c ∷ l) a e =
      le_trans (product_le (le_refl (s (suc c))) ((old (k - c) (omega arith)).below l a.1 (omega arith)))
      (le_trans (le_greatest (λ c. date_product (s (suc c)) (star (k - c))) k c (omega arith)) (le_later_right (At (pos 0)) (greatest_of_first (λ c. date_product (s (suc c)) (star (k - c))) k)))

  least : (y : Date) → Le (At (pos 0)) y → ((l : List ℕ) → ArePositive l → total_of_parts l ≡ suc k → Le (sum_of_values s l) y) → Le (first_parts s star (suc k)) y
  least y z h = later_le z (greatest_le (λ c. date_product (s (suc c)) (star (k - c))) k y (λ c w.
      from_left (s (suc c)) ((old (k - c) (omega arith)).least (date_left (s (suc c)) y)
      (to_left (s (suc c)) (le_trans (le_is (times_one (s (suc c))))
      (le_trans (up.rises (suc c) (suc k) (omega arith)) (le_trans (le_is (sym (times_one (s (suc k))))) (h (suc k ∷ []) (omega arith, tt) (omega arith))))))
      (λ l a e. to_left (s (suc c)) (h (suc c ∷ l) (omega arith, a) (omega arith))))))

later_either : (a b : Date) → (later_of a b ≡ a) ⊎ (later_of a b ≡ b)
later_either Early b = inr refl
later_either (At s) Early = inl refl
later_either (At s) (At t) = max_either s t where
  max_either : (x y : ℤ) → (At (int_max x y) ≡ At x) ⊎ (At (int_max x y) ≡ At y)
  max_either x y = by_lt_z y x (λ l. inl (ap At (omega (arith, ints, clamps)))) (λ l. inr (ap At (omega (arith, ints, clamps))))
later_either (At s) Never = inr refl
later_either Never b = inl refl

-- the greatest of finitely many is reached
pub greatest_reached : (f : ℕ → Date) (n : ℕ) → (j : ℕ) × (j ≤ n) × (greatest_of_first f n ≡ f j)
greatest_reached f zero = (0, omega arith, refl)
greatest_reached f (suc n) = one_of (greatest_of_first f n) (f (suc n)) (greatest_reached f n) refl where
  one_of : (a b : Date) → ((j : ℕ) × (j ≤ n) × (greatest_of_first f n ≡ f j))
      → later_of (greatest_of_first f n) (f (suc n)) ≡ later_of (greatest_of_first f n) (f (suc n)) → (j : ℕ) × (j ≤ suc n)
      × (later_of (greatest_of_first f n) (f (suc n)) ≡ f j)
  one_of a b old _ = ⊎_elim
      (λ e. (old.0, let w : old.0 ≤ n = old.1 in omega arith, e ∙ old.2))
      (λ e. (suc n, omega arith, e))
      (later_either (greatest_of_first f n) (f (suc n)))

-- ---- the star in words

reached_by : (s : ℕ → Date) (m k : ℕ) → (power_at s m k ≡ Early) ⊎ ((l : List ℕ) × ArePositive l × (total_of_parts l ≡ k) × (sum_of_values s l ≡ power_at s m k))
reached_by s zero zero = inr ([], tt, refl, refl)
reached_by s zero (suc k) = inl refl
reached_by s (suc m) k = by_split (greatest_reached (λ i. date_product (positive_part s i) (power_at s m (k - i))) k) (λ j. reached_by s m j) where
  by_split : ((i : ℕ) × (i ≤ k) × (greatest_of_first (λ i. date_product (positive_part s i) (power_at s m (k - i))) k ≡ date_product (positive_part s i) (power_at s m (k - i))))
      → ((j : ℕ) → (power_at s m j ≡ Early) ⊎ ((l : List ℕ) × ArePositive l × (total_of_parts l ≡ j) × (sum_of_values s l ≡ power_at s m j)))
      → (power_at s (suc m) k ≡ Early) ⊎ ((l : List ℕ) × ArePositive l × (total_of_parts l ≡ k) × (sum_of_values s l ≡ power_at s (suc m) k))
  by_split (zero, w, e) rest = inl e
  by_split (suc c, w, e) rest = ⊎_elim
      (λ none. inl (e ∙ ap (date_product (s (suc c))) none ∙ times_early (s (suc c))))
      (λ some. inr (suc c ∷ some.0, (omega arith, some.1), (let t : total_of_parts some.0 ≡ k - suc c = some.2 in omega arith), ap (date_product (s (suc c))) some.3 ∙ sym e))
      (rest (k - suc c))

pub parts_star_greatest : (s : ℕ → Date) (k : ℕ) → IsGreatestStarSum s k (parts_star s k)
parts_star_greatest s k = record { zero_below = (parts_star_is s k).zero_below; below = (parts_star_is s k).below; reached = by_power (greatest_reached (λ m. power_at s m k) k) } where
  by_power : ((m : ℕ) × (m ≤ k) × (greatest_of_first (λ m. power_at s m k) k ≡ power_at s m k)) → (parts_star s k ≡ At (pos 0))
      ⊎ ((l : List ℕ) × ArePositive l × (total_of_parts l ≡ k) × (sum_of_values s l ≡ parts_star s k))
  by_power (m, w, e) = ⊎_elim
      (λ low. inl low)
      (λ high. ⊎_elim
      (λ none. inl (ap (later_of (At (pos 0))) (e ∙ none)))
      (λ some. inr (some.0, some.1, some.2, some.3 ∙ sym e ∙ sym high))
      (reached_by s m k))
      (later_either (At (pos 0)) (greatest_of_first (λ m. power_at s m k) k))

pub greatest_sum_star : (s : ℕ → Date) (k : ℕ) (x : Date) → IsGreatestStarSum s k x → x ≡ parts_star s k
greatest_sum_star s k x h = le_antisym (⊎_elim (λ e. le_trans (le_is e) (parts_star_is s k).zero_below)
    (λ some. le_trans (le_is (sym some.3)) ((parts_star_is s k).below some.0 some.1 some.2)) h.reached)
    ((parts_star_is s k).least x h.zero_below h.below)

pub star_words : (s : ℕ → Date) (k : ℕ) → IsStarOf s k (star_at s k)
star_words s k = cases (s 0) where
  cases : (d : Date) → IsStarBy d s k (star_by d s k)
  cases Early = parts_star_greatest s k
  cases (At (pos zero)) = parts_star_greatest s k
  cases (At (pos (suc n))) = refl
  cases (At (negsuc n)) = parts_star_greatest s k
  cases Never = refl

pub star_only : (s : ℕ → Date) (k : ℕ) (x : Date) → IsStarOf s k x → x ≡ star_at s k
star_only s k x h = cases (s 0) h where
  cases : (d : Date) → IsStarBy d s k x → x ≡ star_by d s k
  cases Early w = greatest_sum_star s k x w
  cases (At (pos zero)) w = greatest_sum_star s k x w
  cases (At (pos (suc n))) w = w
  cases (At (negsuc n)) w = greatest_sum_star s k x w
  cases Never w = w
