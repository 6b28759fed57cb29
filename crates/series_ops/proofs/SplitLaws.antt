-- Sums over the splits of a shift, some places at a time.
use Rattle.std.proofs.Common.{◌≡◌, refl, ap, arith, ℕ, ℤ, zero, suc, ◌+◌, ◌-◌, ◌≤◌, ◌<◌, sym, ◌∙◌, ⊎_elim, List, to_z, of_z}
use Rattle.std.specs.Prelude.{min}
use Rattle.std.specs.Int.{w128}
use Rattle.std.specs.Int.RustNames.{unsigned_abs}
use Rattle.std.proofs.lemmas.Int.{to_z-of_z}
use Rattle.std.proofs.lemmas.Bool.{cases_lt}
use Rattle.dioid.specs.DateOrder.{Le}
use Rattle.dioid.proofs.AtMost.{le_is, le_trans, le_later_left, le_later_right, later_le, early_le}
use Rattle.dioid.specs.Dates.{later_of, date_product, move}
use Rattle.dioid.specs.Proved.DateLaws.{later_assoc}
use Rattle.dioid.specs.declared.dates.Date.{Date}
use Rattle.dioid.specs.declared.dates.Date.TheVariants.{Early, At, Never}
use Rattle.dioid.proofs.Moves.{later_move, product_move_left}
use Rattle.series_laws.specs.Periodic.{Repeats}
use Rattle.series_laws.specs.SeriesForms.{Form, form_with, size_of, repeat_start, value_at, table}
use Rattle.series_laws.proofs.FormValues.{value_in, value_repeats}
use Rattle.series_form.specs.NumberBounds.{IsMagnitudeUpTo, IsSeries}
use Rattle.series_form.proofs.DateNumbers.{moderate_fits}
use Rattle.series_form.proofs.Finished.{up_to_more}
use Rattle.series_form.proofs.PointwiseTables.{later_up_to}
use Rattle.dioid.proofs.Moves.{product_is_move}
use Rattle.series_ops.specs.ListFunctions.{value_listed, AreUpTo}
use Rattle.series_laws.specs.Product.{product_at, greatest_of_first}
use Rattle.series_laws.proofs.Products.{product_commutes}
use Rattle.series_form.specs.SeriesLimits.{greatest_value}
use Rattle.series_ops.specs.Splits.{greatest_from, split_of, product_from, places_to, tail_product, with_tail}
use Rattle.series_ops.proofs.FirstValues.{table_same, product_same, listed_is, all_up_to}

-- ---- the greatest of some places

pub later_early : (a : Date) → later_of a Early ≡ a
later_early Early = refl
later_early (At t) = refl
later_early Never = refl

pub greatest_same : (f g : ℕ → Date) (p q m : ℕ) → ((j : ℕ) → j < m → f (p + j) ≡ g (q + j)) → greatest_from f p m ≡ greatest_from g q m
greatest_same f g p q zero h = refl
greatest_same f g p q (suc m) h =
    ap (λ (z : Date). later_of z (f (p + m))) (greatest_same f g p q m (λ j w. h j (omega arith))) ∙ ap (later_of (greatest_from g q m)) (h m (omega arith))

pub greatest_early : (f : ℕ → Date) (p m : ℕ) → ((j : ℕ) → j < m → f (p + j) ≡ Early) → greatest_from f p m ≡ Early
greatest_early f p zero h = refl
greatest_early f p (suc m) h =
    ap (λ (z : Date). later_of z (f (p + m))) (greatest_early f p m (λ j w. h j (omega arith))) ∙ h m (omega arith)

pub greatest_moved : (f g : ℕ → Date) (p q m : ℕ) (x : ℤ) → ((j : ℕ) → j < m → f (p + j) ≡ move x (g (q + j))) → greatest_from f p m ≡ move x (greatest_from g q m)
greatest_moved f g p q zero x h = refl
greatest_moved f g p q (suc m) x h =
    ap (λ (z : Date). later_of z (f (p + m))) (greatest_moved f g p q m x (λ j w. h j (omega arith)))
    ∙ ap (later_of (move x (greatest_from g q m))) (h m (omega arith)) ∙ later_move x (greatest_from g q m) (g (q + m))

pub greatest_joined : (f : ℕ → Date) (p m n : ℕ) → greatest_from f p (m + n) ≡ later_of (greatest_from f p m) (greatest_from f (p + m) n)
greatest_joined f p m zero = let e : m + 0 ≡ m = omega arith in ap (greatest_from f p) e ∙ sym (later_early (greatest_from f p m))
greatest_joined f p m (suc n) =
    let e : m + suc n ≡ suc (m + n) = omega arith in
    let g : p + (m + n) ≡ (p + m) + n = omega arith in
    ap (greatest_from f p) e ∙ ap (λ (z : Date). later_of z (f (p + (m + n)))) (greatest_joined f p m n)
    ∙ ap (λ (z : ℕ). later_of (later_of (greatest_from f p m) (greatest_from f (p + m) n)) (f z)) g
    ∙ later_assoc (greatest_from f p m) (greatest_from f (p + m) n) (f ((p + m) + n))

pub greatest_whole : (f : ℕ → Date) (k : ℕ) → greatest_of_first f k ≡ greatest_from f 0 (suc k)
greatest_whole f zero = refl
greatest_whole f (suc k) =
    let e : suc k ≡ 0 + suc k = omega arith in
    ap (λ (z : Date). later_of z (f (suc k))) (greatest_whole f k) ∙ ap (λ (z : ℕ). later_of (greatest_from f 0 (suc k)) (f z)) e

pub greatest_from_up_to : (f : ℕ → Date) (p m n : ℕ) → ((j : ℕ) → j < m → IsMagnitudeUpTo n (f (p + j))) → IsMagnitudeUpTo n (greatest_from f p m)
greatest_from_up_to f p zero n h = tt
greatest_from_up_to f p (suc m) n h = later_up_to n (greatest_from f p m) (f (p + m)) (greatest_from_up_to f p m n (λ j w. h j (omega arith))) (h m (omega arith))

pub le_greatest_from : (f : ℕ → Date) (p m j : ℕ) → j < m → Le (f (p + j)) (greatest_from f p m)
le_greatest_from f p zero j w = absurd (omega arith)
le_greatest_from f p (suc m) j w = ⊎_elim
    (λ low. le_trans (le_greatest_from f p m j low) (le_later_left (greatest_from f p m) (f (p + m))))
    (λ high. let e : j ≡ m = omega arith in le_trans (le_is (ap (λ (z : ℕ). f (p + z)) e)) (le_later_right (greatest_from f p m) (f (p + m))))
    (cases_lt j m)

pub greatest_from_le : (f : ℕ → Date) (p m : ℕ) (d : Date) → ((j : ℕ) → j < m → Le (f (p + j)) d) → Le (greatest_from f p m) d
greatest_from_le f p zero d h = early_le d
greatest_from_le f p (suc m) d h = later_le (greatest_from_le f p m d (λ j w. h j (omega arith))) (h m (omega arith))

-- ---- the product

-- where s repeats by n shifts from p on, at least n shifts
product_carried : (s t : ℕ → Date) (p n k : ℕ) (x : ℤ) → Repeats s p n x → n ≤ k
    → product_from s t p k ≡ later_of (greatest_from (split_of s t k) p (places_to p n k)) (move x (product_from s t p (k - n)))
product_carried s t p n k x again w =
    let whole : suc k - p ≡ min n (suc k - p) + (suc (k - n) - p) = omega arith in
    ap (greatest_from (split_of s t k) p) whole ∙ greatest_joined (split_of s t k) p (min n (suc k - p)) (suc (k - n) - p)
    ∙ ap (later_of (greatest_from (split_of s t k) p (min n (suc k - p))))
    (greatest_moved (split_of s t k) (split_of s t (k - n)) (p + min n (suc k - p)) p (suc (k - n) - p) x (λ j u.
    let all : min n (suc k - p) ≡ n = omega arith in
    let first : (p + min n (suc k - p)) + j ≡ (p + j) + n = omega arith in
    let second : k - ((p + j) + n) ≡ (k - n) - (p + j) = omega arith in
    ap (split_of s t k) first ∙ ap (λ (z : Date). date_product z (t (k - ((p + j) + n)))) (again.at (p + j) (omega arith))
    ∙ ap (λ (z : ℕ). date_product (move x (s (p + j))) (t z)) second ∙ product_move_left x (s (p + j)) (t ((k - n) - (p + j)))))

-- fewer than n shifts
product_begun : (s t : ℕ → Date) (p n k : ℕ) → k < n → product_from s t p k ≡ greatest_from (split_of s t k) p (places_to p n k)
product_begun s t p n k w = let e : suc k - p ≡ min n (suc k - p) = omega arith in ap (greatest_from (split_of s t k) p) e

-- the splits whose first part is below p, and the rest
pub product_parted : (s t : ℕ → Date) (p k : ℕ) → product_at s t k ≡ with_tail s t p (product_from s t p k) k
product_parted s t p k =
    let whole : suc k ≡ min p (suc k - 0) + (suc k - p) = omega arith in
    greatest_whole (split_of s t k) k ∙ ap (greatest_from (split_of s t k) 0) whole ∙ greatest_joined (split_of s t k) 0 (min p (suc k - 0)) (suc k - p)
    ∙ ap (later_of (greatest_from (split_of s t k) 0 (min p (suc k - 0))))
    (greatest_same (split_of s t k) (split_of s t k) (0 + min p (suc k - 0)) p (suc k - p) (λ j u. let e : (0 + min p (suc k - 0)) + j ≡ p + j = omega arith in ap (split_of s t k) e))

-- values that agree have the same splits
pub product_from_same : (s t u : ℕ → Date) (p k : ℕ) → ((i : ℕ) → i ≤ k → t i ≡ u i) → product_from s t p k ≡ product_from s u p k
product_from_same s t u p k h = greatest_same (split_of s t k) (split_of s u k) p p (suc k - p) (λ j w. ap (date_product (s (p + j))) (h (k - (p + j)) (omega arith)))

-- ---- by the list of a form

listed_splits : (f : Form) (t : ℕ → Date) (k p m : ℕ) → p + m ≤ size_of f → greatest_from (split_of (value_listed f.values) t k) p m ≡ greatest_from (split_of (value_at f) t k) p m
listed_splits f t k p m w = greatest_same (split_of (value_listed f.values) t k) (split_of (value_at f) t k) p p m (λ j u.
    ap (λ (z : Date). date_product z (t (k - (p + j)))) (sym (value_in f (p + j) (omega arith))))

-- the splits whose first part is below the tail, and those where it is in the tail
pub parted_listed : (f : Form) (t : ℕ → Date) (k p : ℕ) (d : Date) → p ≡ repeat_start f → d ≡ tail_product f t k → with_tail (value_listed f.values) t p d k ≡ product_at (value_at f) t k
parted_listed f t k p d ep ed =
    let inside : 0 + places_to 0 (repeat_start f) k ≤ size_of f = omega arith in
    ap (λ (z : ℕ). with_tail (value_listed f.values) t z d k) ep
    ∙ ap (λ (z : Date). with_tail (value_listed f.values) t (repeat_start f) z k) ed
    ∙ ap (λ (z : Date). later_of z (tail_product f t k)) (listed_splits f t k 0 (places_to 0 (repeat_start f) k) inside)
    ∙ sym (product_parted (value_at f) t (repeat_start f) k)

-- the splits whose first part is in the tail and in the list
tail_listed : (f : Form) (t : ℕ → Date) (k : ℕ) → f.period ≤ size_of f
    → greatest_from (split_of (value_listed f.values) t k) (repeat_start f) (places_to (repeat_start f) f.period k) ≡ greatest_from
    (split_of (value_at f) t k) (repeat_start f) (places_to (repeat_start f) f.period k)
tail_listed f t k fits = let inside : repeat_start f + places_to (repeat_start f) f.period k ≤ size_of f =
    omega arith in listed_splits f t k (repeat_start f) (places_to (repeat_start f) f.period k) inside

-- below a period they are all
pub tail_begun : (f : Form) (t : ℕ → Date) (k : ℕ) → f.period ≤ size_of f → k < f.period
    → greatest_from (split_of (value_listed f.values) t k) (repeat_start f) (places_to (repeat_start f) f.period k) ≡ tail_product f t k
tail_begun f t k fits w = tail_listed f t k fits ∙ sym (product_begun (value_at f) t (repeat_start f) f.period k w)

-- from there on the others are those of a period before, a step later
pub tail_carried : (f : Form) (t : ℕ → Date) (k : ℕ) (l : List Date) → 0 < f.period → f.period ≤ size_of f → l ≡ table (tail_product f t) k → f.period ≤ k
    → later_of (greatest_from (split_of (value_listed f.values) t k) (repeat_start f) (places_to (repeat_start f) f.period k))
    (date_product (At f.step) (value_listed l (k - f.period))) ≡ tail_product f t k
tail_carried f t k l pos_n fits e w =
    let before : date_product (At f.step) (value_listed l (k - f.period)) ≡ move f.step (tail_product f t (k - f.period)) =
    product_is_move f.step (value_listed l (k - f.period)) ∙ ap (move f.step) (listed_is (tail_product f t) k l e (k - f.period) (omega arith)) in
    ap (λ (z : Date). later_of z (date_product (At f.step) (value_listed l (k - f.period)))) (tail_listed f t k fits)
    ∙ ap (later_of (greatest_from (split_of (value_at f) t k) (repeat_start f) (places_to (repeat_start f) f.period k))) before
    ∙ sym (product_carried (value_at f) t (repeat_start f) f.period k f.step (value_repeats f pos_n fits) w)

-- ---- the form of a series, as the code passes it

pub stepped : (f : Form) (x : ℤ) → IsSeries f → x ≡ f.step → to_z w128 (of_z w128 x) ≡ f.step
stepped f x h e = ap (λ (z : ℤ). to_z w128 (of_z w128 z)) e ∙ to_z-of_z w128 f.step (moderate_fits f.step (let w : unsigned_abs f.step ≤ greatest_value = h.small.step in omega arith))

pub passed_form : (f : Form) (l : List Date) (n : ℕ) (x : ℤ) → IsSeries f → n ≡ f.period → x ≡ f.step → form_with l n (to_z w128 (of_z w128 x)) ≡ form_with l f.period f.step
passed_form f l n x h en ex = ap (form_with l n) (stepped f x h ex) ∙ ap (λ (z : ℕ). form_with l z f.step) en

-- ---- bounds

pub splits_up_to : (s t : ℕ → Date) (p k n m : ℕ) (l : List Date) → l ≡ table (product_from s t p) k → ((i j : ℕ) → i + j < k → IsMagnitudeUpTo n (date_product (s i) (t j))) → n ≤ m → AreUpTo m l
splits_up_to s t p k n m l e low w = all_up_to m (product_from s t p) k l e (λ i u.
    up_to_more n m (product_from s t p i) w (greatest_from_up_to (split_of s t i) p (suc i - p) n (λ j v. low (p + j) (i - (p + j)) (omega arith))))

-- ---- the table

pub product_listed : (s t : ℕ → Date) (n : ℕ) (m : List Date) → m ≡ table t n → table (product_at s (value_listed m)) n ≡ table (product_at s t) n
product_listed s t n m e = table_same (product_at s (value_listed m)) (product_at s t) n (λ k w. product_same s (value_listed m) s t k (λ i u. refl) (λ i u. listed_is t n m e i (omega arith)))

pub product_turned : (s t : ℕ → Date) (n : ℕ) → table (product_at s t) n ≡ table (product_at t s) n
product_turned s t n = table_same (product_at s t) (product_at t s) n (λ k w. product_commutes s t k)
