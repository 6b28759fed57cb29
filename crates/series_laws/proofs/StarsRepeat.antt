-- Lists of parts, the star of a series, and where it repeats.
use Rattle.std.proofs.Common.{◌≡◌, refl, ap, arith, ℕ, ℤ, pos, zero, suc, ◌+◌, ◌*◌, ◌≤◌, ◌<◌, ◌+ℤ◌, ◌-ℤ◌, sym, ◌∙◌, ⊎_elim, ◌⊎◌, inl, inr, List, [], ◌∷◌}
use Rattle.std.specs.Prelude.{◌≤ℤ◌}
use Rattle.std.proofs.lemmas.Int.{ints, by_lt_z}
use Rattle.dioid.specs.Dates.{date_product, move}
use Rattle.dioid.specs.Proved.DateLaws.{one_times}
use Rattle.dioid.specs.declared.dates.Date.{Date}
use Rattle.dioid.specs.declared.dates.Date.TheVariants.{Early, At, Never}
use Rattle.dioid.specs.DateOrder.{Le}
use Rattle.dioid.proofs.AtMost.{le_refl, le_is, le_trans, le_antisym, le_never, product_le, le_move_back, le_move_over}
use Rattle.series_laws.specs.Periodic.{Repeats, times}
use Rattle.series_laws.proofs.Repeating.{times_add}
use Rattle.series_laws.specs.SeriesStars.{total_of_parts, sum_of_values, ArePositive, IsStarAt, scaled}

pub one_star : (s : ℕ → Date) (k : ℕ) (x y : Date) → IsStarAt s k x → IsStarAt s k y → x ≡ y
one_star s k x y a b = le_antisym (a.least y b.zero_below b.below) (b.least x a.zero_below a.below)

abbrev ones : ℕ → List ℕ
ones zero = []
ones (suc k) = 1 ∷ ones k

ones_positive : (k : ℕ) → ArePositive (ones k)
ones_positive zero = tt
ones_positive (suc k) = (omega arith, ones_positive k)

ones_total : (k : ℕ) → total_of_parts (ones k) ≡ k
ones_total zero = refl
ones_total (suc k) = let e : total_of_parts (ones k) ≡ k = ones_total k in omega arith

ones_date : (s : ℕ → Date) (k : ℕ) → Le (At (pos 0)) (s 1) → Le (At (pos 0)) (sum_of_values s (ones k))
ones_date s zero h = le_refl (At (pos 0))
ones_date s (suc k) h = le_trans (le_is (sym (one_times (At (pos 0))))) (product_le h (ones_date s k h))

-- With a value of at least 0 at shift 1, lists decide alone.
pub star_repeats : (s star : ℕ → Date) (q n : ℕ) (x : ℤ) → Le (At (pos 0)) (s 1) → ((k : ℕ) → IsStarAt s k (star k))
    → ((k : ℕ) → q ≤ k → (l : List ℕ) → ArePositive l → total_of_parts l ≡ k + n → Le (sum_of_values s l) (move x (star k)))
    → ((k : ℕ) → q ≤ k → (l : List ℕ) → ArePositive l → total_of_parts l ≡ k → Le (move x (sum_of_values s l)) (star (k + n)))
    → Repeats star q n x
star_repeats s star q n x h is down up = record {
  at = λ k w. le_antisym
      ((is (k + n)).least (move x (star k)) (le_trans (ones_date s (k + n) h) (down k w (ones (k + n)) (ones_positive (k + n)) (ones_total (k + n)))) (down k w))
      (le_move_over x ((is k).least (move (pos 0 -ℤ x) (star (k + n)))
      (le_trans (ones_date s k h) (le_move_back x (up k w (ones k) (ones_positive k) (ones_total k))))
      (λ l a e. le_move_back x (up k w l a e))));
}

-- ---- case 1

pub star_never : (s star : ℕ → Date) (p : ℕ) → ((k : ℕ) → IsStarAt s k (star k)) → ((k : ℕ) → p ≤ k → s k ≡ Never) → (k : ℕ) → p ≤ k → 0 < k → star k ≡ Never
star_never s star p is never k w u = le_antisym (le_never (star k)) (le_trans (le_is (sym (ap (λ z. date_product z (At (pos 0))) (never k w)))) ((is k).below (k ∷ []) (u, tt) (omega arith)))

-- ---- a number of dates

times_plus : (m : ℕ) (x y : ℤ) → times m (x +ℤ y) ≡ times m x +ℤ times m y
times_plus zero x y = refl
times_plus (suc m) x y = let e : times m (x +ℤ y) ≡ times m x +ℤ times m y = times_plus m x y in omega (arith, ints)

pub times_up : (m : ℕ) (x y : ℤ) → x ≤ℤ y → times m x ≤ℤ times m y
times_up zero x y h = omega (arith, ints)
times_up (suc m) x y h = let e : times m x ≤ℤ times m y = times_up m x y h in omega (arith, ints)

pub times_over : (m k : ℕ) (x : ℤ) → times (m * k) x ≡ times m (times k x)
times_over zero k x = let n : 0 * k ≡ 0 = omega arith in ap (λ (z : ℕ). times z x) n
times_over (suc m) k x =
    let n : suc m * k ≡ m * k + k = omega arith in
    ap (λ (z : ℕ). times z x) n ∙ times_add (m * k) k x ∙ ap (λ (z : ℤ). z +ℤ times k x) (times_over m k x)

pub times_swap : (m k : ℕ) (x : ℤ) → times m (times k x) ≡ times k (times m x)
times_swap m k x = let n : m * k ≡ k * m = omega arith in sym (times_over m k x) ∙ ap (λ (z : ℕ). times z x) n ∙ times_over k m x

pub scaled_product : (m : ℕ) (a b : Date) → scaled m (date_product a b) ≡ date_product (scaled m a) (scaled m b)
scaled_product m Early b = refl
scaled_product m (At s) Early = refl
scaled_product m (At s) (At t) = ap At (times_plus m s t)
scaled_product m (At s) Never = refl
scaled_product m Never Early = refl
scaled_product m Never (At t) = refl
scaled_product m Never Never = refl

pub scaled_zero : (m : ℕ) → scaled m (At (pos 0)) ≡ At (pos 0)
scaled_zero zero = refl
scaled_zero (suc m) = ap At (let P : ℕ → Type 0 = λ k. times k (pos 0) ≡ pos 0 in let e : P m = zeros m in omega (arith, ints)) where
  zeros : (k : ℕ) → times k (pos 0) ≡ pos 0
  zeros zero = refl
  zeros (suc k) = let e : times k (pos 0) ≡ pos 0 = zeros k in omega (arith, ints)

pub scaled_le : {a b : Date} (m : ℕ) → Le a b → Le (scaled m a) (scaled m b)
scaled_le {a = Early} {b} m h = record { holds = tt }
scaled_le {a = At s} {b = Early} m h = absurd h.holds
scaled_le {a = At s} {b = At t} m h = record { holds = times_up m s t h.holds }
scaled_le {a = At s} {b = Never} m h = record { holds = tt }
scaled_le {a = Never} {b = Early} m h = absurd h.holds
scaled_le {a = Never} {b = At t} m h = absurd h.holds
scaled_le {a = Never} {b = Never} m h = record { holds = tt }

pub times_back : (m : ℕ) (x y : ℤ) → 0 < m → times m x ≤ℤ times m y → x ≤ℤ y
times_back m x y u h = ⊎_elim (λ l. l) (λ g. absurd (strict m x y u g h)) (int_cases x y) where
  strict_up : (k : ℕ) (a b : ℤ) → (b +ℤ pos 1) ≤ℤ a → (times k b +ℤ pos k) ≤ℤ times k a
  strict_up zero a b g = omega (arith, ints)
  strict_up (suc k) a b g = let e : (times k b +ℤ pos k) ≤ℤ times k a = strict_up k a b g in omega (arith, ints)

  strict : (k : ℕ) (a b : ℤ) → 0 < k → (b +ℤ pos 1) ≤ℤ a → times k a ≤ℤ times k b → ⊥
  strict k a b w g h = let e : (times k b +ℤ pos k) ≤ℤ times k a = strict_up k a b g in absurd (omega (arith, ints))

  int_cases : (a b : ℤ) → (a ≤ℤ b) ⊎ ((b +ℤ pos 1) ≤ℤ a)
  int_cases a b = by_lt_z b a (λ l. inr (omega (arith, ints))) (λ l. inl l)

pub scaled_le_back : {a b : Date} (m : ℕ) → 0 < m → Le (scaled m a) (scaled m b) → Le a b
scaled_le_back {a = Early} {b} m u h = record { holds = tt }
scaled_le_back {a = At s} {b = Early} m u h = absurd h.holds
scaled_le_back {a = At s} {b = At t} m u h = record { holds = times_back m s t u h.holds }
scaled_le_back {a = At s} {b = Never} m u h = record { holds = tt }
scaled_le_back {a = Never} {b = Early} m u h = absurd h.holds
scaled_le_back {a = Never} {b = At t} m u h = absurd h.holds
scaled_le_back {a = Never} {b = Never} m u h = record { holds = tt }

pub scaled_move : (m : ℕ) (x : ℤ) (a : Date) → scaled m (move x a) ≡ move (times m x) (scaled m a)
scaled_move m x Early = refl
scaled_move m x (At s) = ap At (times_plus m s x)
scaled_move m x Never = refl
