-- Sums over places one after another, and of places that go on by equal steps.
use Rattle.std.proofs.Common.{◌≡◌, ap, arith, ℕ, ℤ, pos, zero, suc, ◌+◌, ◌-◌, ◌*◌, ◌≤◌, ◌<◌, sym, ◌∙◌, ⊎_elim, subst, List, length, true, false, cond, ltb, Bool}
use Rattle.std.specs.Prelude.{min}
use Rattle.std.proofs.lemmas.Bool.{cases_lt}
use Rattle.std.proofs.lemmas.Bool.Decides.{nat_tests}
use Rattle.dioid.specs.Dates.{later_of, date_product, move}
use Rattle.dioid.specs.Proved.DateLaws.{later_assoc, later_idempotent, one_times}
use Rattle.dioid.specs.declared.dates.Date.{Date}
use Rattle.dioid.specs.declared.dates.Date.TheVariants.{Early, At}
use Rattle.dioid.proofs.Moves.{move_zero, move_move, product_is_move, product_move_left}
use Rattle.series_laws.specs.Periodic.{times}
use Rattle.series_laws.specs.SeriesForms.{table}
use Rattle.series_laws.proofs.FormValues.{table_length, table_at, same_lists}
use Rattle.series_form.specs.NumberBounds.{IsMagnitudeUpTo}
use Rattle.series_form.specs.SeriesLimits.{greatest_listed, greatest_value_ahead, greatest_moderate}
use Rattle.series_form.proofs.Finished.{up_to_more}
use Rattle.series_ops.specs.ListFunctions.{value_listed, AreUpTo}
use Rattle.series_ops.specs.Pieces.{window, carried_at, joined_at, ArePieceSums, RepeatsIn}
use Rattle.series_ops.specs.Splits.{greatest_from, split_of, places_to}
use Rattle.series_ops.proofs.FirstValues.{table_same, listed_is, added_up_to, all_up_to}
use Rattle.series_ops.proofs.SplitLaws.{later_early, greatest_same, greatest_joined, greatest_moved, greatest_from_up_to}

-- ---- a value that is carried

pub carried_low : (t : ℕ → Date) (n : ℕ) (d : Date) (k : ℕ) → k < n → carried_at t n d k ≡ Early
carried_low t n d k w = let e : ltb k n ≡ true = grind (arith, nat_tests) in ap (λ (z : Bool). cond z Early (date_product d (t (k - n)))) e

pub carried_high : (t : ℕ → Date) (n : ℕ) (d : Date) (k : ℕ) → n ≤ k → carried_at t n d k ≡ date_product d (t (k - n))
carried_high t n d k w = let e : ltb k n ≡ false = grind (arith, nat_tests) in ap (λ (z : Bool). cond z Early (date_product d (t (k - n)))) e

carried_same : (t u : ℕ → Date) (n : ℕ) (d : Date) (k : ℕ) → ((i : ℕ) → i ≤ k → t i ≡ u i) → carried_at t n d k ≡ carried_at u n d k
carried_same t u n d k h = ap (λ (z : Date). cond (ltb k n) Early (date_product d z)) (h (k - n) (omega arith))

-- the lists of joined sums
pub joined_listed : (s t : ℕ → Date) (n m : ℕ) (d : Date) (a b r : List Date) → r ≡ table (joined_at (value_listed a) (value_listed b) n d) (length a)
    → length a ≡ m → a ≡ table s m → b ≡ table t m → r ≡ table (joined_at s t n d) m
joined_listed s t n m d a b r er el ea eb = er ∙ ap (table (joined_at (value_listed a) (value_listed b) n d)) el
    ∙ table_same (joined_at (value_listed a) (value_listed b) n d) (joined_at s t n d) m (λ k w.
    ap (λ (z : Date). later_of z (carried_at (value_listed b) n d k)) (listed_is s m a ea k w)
    ∙ ap (later_of (s k)) (carried_same (value_listed b) t n d k (λ i u. listed_is t m b eb i (omega arith))))

-- ---- one place more

pub window_none : (s t : ℕ → Date) (p k : ℕ) → window s t p 0 k ≡ Early
window_none s t p k = let e : min 0 (suc k - p) ≡ 0 = omega arith in ap (greatest_from (split_of s t k) p) e

pub window_more : (s t : ℕ → Date) (p m k : ℕ) → joined_at (window s t p m) t (p + m) (s (p + m)) k ≡ window s t p (m + 1) k
window_more s t p m k = ⊎_elim
    (λ low.
    let e : min m (suc k - p) ≡ min (m + 1) (suc k - p) = omega arith in
    ap (later_of (window s t p m k)) (carried_low t (p + m) (s (p + m)) k low) ∙ later_early (window s t p m k) ∙ ap (greatest_from (split_of s t k) p) e)
    (λ high.
    let a : min m (suc k - p) ≡ m = omega arith in
    let b : suc m ≡ min (m + 1) (suc k - p) = omega arith in
    ap (later_of (window s t p m k)) (carried_high t (p + m) (s (p + m)) k high)
    ∙ ap (λ (z : ℕ). later_of (greatest_from (split_of s t k) p z) (split_of s t k (p + m))) a
    ∙ ap (greatest_from (split_of s t k) p) b)
    (cases_lt k (p + m))

-- ---- places that follow one another

pub window_joined : (s t : ℕ → Date) (p m n k : ℕ) → joined_at (window s t p m) (window s t (p + m) n) 0 (At (pos 0)) k ≡ window s t p (m + n) k
window_joined s t p m n k =
    let at : k - 0 ≡ k = omega arith in
    let whole : min m (suc k - p) + min n (suc k - (p + m)) ≡ min (m + n) (suc k - p) = omega arith in
    ap (later_of (window s t p m k)) (carried_high (window s t (p + m) n) 0 (At (pos 0)) k (omega arith) ∙ one_times (window s t (p + m) n (k - 0)) ∙ ap (window s t (p + m) n) at)
    ∙ ⊎_elim
    (λ low.
    let none : min n (suc k - (p + m)) ≡ 0 = omega arith in
    let all : min m (suc k - p) ≡ min (m + n) (suc k - p) = omega arith in
    ap (λ (z : ℕ). later_of (window s t p m k) (greatest_from (split_of s t k) (p + m) z)) none
    ∙ later_early (window s t p m k) ∙ ap (greatest_from (split_of s t k) p) all)
    (λ high.
    let a : min m (suc k - p) ≡ m = omega arith in
    ap (λ (z : ℕ). later_of (greatest_from (split_of s t k) p z) (window s t (p + m) n k)) a
    ∙ sym (greatest_joined (split_of s t k) p m (min n (suc k - (p + m))))
    ∙ ap (λ (z : ℕ). greatest_from (split_of s t k) p (z + min n (suc k - (p + m)))) (sym a)
    ∙ ap (greatest_from (split_of s t k) p) whole)
    (cases_lt k (p + m))

-- ---- places that repeat

-- a part that stands in both counts once
greatest_overlap : (f : ℕ → Date) (p d e g : ℕ) → later_of (greatest_from f p (d + e)) (greatest_from f (p + d) (e + g)) ≡ greatest_from f p (d + (e + g))
greatest_overlap f p d e g =
    let a : Date = greatest_from f p d in
    let b : Date = greatest_from f (p + d) e in
    let c : Date = greatest_from f ((p + d) + e) g in
    ap (λ (z : Date). later_of z (greatest_from f (p + d) (e + g))) (greatest_joined f p d e)
    ∙ ap (later_of (later_of a b)) (greatest_joined f (p + d) e g)
    ∙ later_assoc a b (later_of b c)
    ∙ ap (later_of a) (sym (later_assoc b b c) ∙ ap (λ (z : Date). later_of z c) (later_idempotent b))
    ∙ ap (later_of a) (sym (greatest_joined f (p + d) e g))
    ∙ sym (greatest_joined f p d (e + g))

-- n places of which the first d are known, and those d places on
pub window_doubled : (s t : ℕ → Date) (p n d k : ℕ) (x : ℤ) → d ≤ n → ((i : ℕ) → i < n → s (p + (i + d)) ≡ move x (s (p + i)))
    → joined_at (window s t p n) (window s t p n) d (At x) k ≡ window s t p (n + d) k
window_doubled s t p n d k x fits again = ⊎_elim
    (λ low.
    let e : min n (suc k - p) ≡ min (n + d) (suc k - p) = omega arith in
    ap (later_of (window s t p n k)) (carried_high_or_none low) ∙ later_early (window s t p n k) ∙ ap (greatest_from (split_of s t k) p) e)
    (λ high.
    let v : ℕ = min n (suc (k - d) - p) in
    let e : ℕ = min n (suc k - p) - d in
    let g : ℕ = v - e in
    let back : d ≤ k = omega arith in
    let here : min n (suc k - p) ≡ d + e = omega arith in
    let there : v ≡ e + g = omega arith in
    let whole : d + (e + g) ≡ min (n + d) (suc k - p) = omega arith in
    ap (later_of (window s t p n k)) (carried_high (window s t p n) d (At x) k back ∙ product_is_move x (window s t p n (k - d)) ∙ sym (shifted high))
    ∙ ap (λ (z : ℕ). later_of (greatest_from (split_of s t k) p z) (greatest_from (split_of s t k) (p + d) v)) here
    ∙ ap (λ (z : ℕ). later_of (greatest_from (split_of s t k) p (d + e)) (greatest_from (split_of s t k) (p + d) z)) there
    ∙ greatest_overlap (split_of s t k) p d e g
    ∙ ap (greatest_from (split_of s t k) p) whole)
    (cases_lt k (p + d)) where
      shifted : p + d ≤ k → greatest_from (split_of s t k) (p + d) (min n (suc (k - d) - p)) ≡ move x (window s t p n (k - d))
      shifted high = greatest_moved (split_of s t k) (split_of s t (k - d)) (p + d) p (min n (suc (k - d) - p)) x (λ j u.
          let first : (p + d) + j ≡ p + (j + d) = omega arith in
          let second : k - (p + (j + d)) ≡ (k - d) - (p + j) = omega arith in
          ap (split_of s t k) first
          ∙ ap (λ (z : Date). date_product z (t (k - (p + (j + d))))) (again j (omega arith))
          ∙ ap (λ (z : ℕ). date_product (move x (s (p + j))) (t z)) second
          ∙ product_move_left x (s (p + j)) (t ((k - d) - (p + j))))

      carried_high_or_none : k < p + d → carried_at (window s t p n) d (At x) k ≡ Early
      carried_high_or_none low = ⊎_elim
          (λ early. carried_low (window s t p n) d (At x) k early)
          (λ late.
          let none : min n (suc (k - d) - p) ≡ 0 = omega arith in
          carried_high (window s t p n) d (At x) k late
          ∙ ap (λ (z : ℕ). date_product (At x) (greatest_from (split_of s t (k - d)) p z)) none)
          (cases_lt k d)

-- w turns of n places move by w steps
turned_by : (s : ℕ → Date) (p m n : ℕ) (x : ℤ) → RepeatsIn s p m n x → (w i : ℕ) → i + n * w < m → s (p + (i + n * w)) ≡ move (times w x) (s (p + i))
turned_by s p m n x again zero i low =
    let e : i + n * zero ≡ i = grind arith in
    ap (λ (z : ℕ). s (p + z)) e ∙ sym (move_zero (s (p + i)))
turned_by s p m n x again (suc w) i low =
    let e : i + n * suc w ≡ (i + n * w) + n = grind arith in
    let here : (i + n * w) + n < m = subst (λ (z : ℕ). z < m) e low in
    ap (λ (z : ℕ). s (p + z)) e ∙ again (i + n * w) here
    ∙ ap (move x) (turned_by s p m n x again w i (omega arith))
    ∙ move_move (times w x) x (s (p + i))

-- w turns are known, and v of them follow
pub turns_doubled : (s t : ℕ → Date) (p m n w v k : ℕ) (x : ℤ) → RepeatsIn s p m n x → v ≤ w → n * (w + v) ≤ m
    → joined_at (window s t p (n * w)) (window s t p (n * w)) (n * v) (At (times v x)) k ≡ window s t p (n * (w + v)) k
turns_doubled s t p m n w v k x again fits room =
    let whole : n * w + n * v ≡ n * (w + v) = grind arith in
    window_doubled s t p (n * w) (n * v) k (times v x) (grind arith) (λ i u. turned_by s p m n x again v i (omega arith))
    ∙ ap (λ (z : ℕ). window s t p z k) whole

-- ---- bounds

pub window_up_to : (l m : List Date) (p n a b c : ℕ) (k : ℕ) → AreUpTo a l → AreUpTo b m → a + b ≤ c → IsMagnitudeUpTo c (window (value_listed l) (value_listed m) p n k)
window_up_to l m p n a b c k hl hm w = up_to_more (a + b) c (window (value_listed l) (value_listed m) p n k) w
    (greatest_from_up_to (split_of (value_listed l) (value_listed m) k) p (places_to p n k) (a + b)
    (λ j u. added_up_to a b (value_listed l (p + j)) (value_listed m (k - (p + j))) (hl (p + j)) (hm (k - (p + j)))))

pub windows_up_to : (l m r : List Date) (p n q : ℕ) → AreUpTo greatest_value_ahead l → AreUpTo greatest_listed m
    → r ≡ table (window (value_listed l) (value_listed m) p n) q → AreUpTo greatest_moderate r
windows_up_to l m r p n q hl hm e = all_up_to greatest_moderate (window (value_listed l) (value_listed m) p n) q r e (λ k w.
    window_up_to l m p n greatest_value_ahead greatest_listed greatest_moderate k hl hm (omega arith))

-- ---- lists of sums

pub own_table : (l : List Date) → l ≡ table (value_listed l) (length l)
own_table l = same_lists l (table (value_listed l) (length l)) (sym (table_length (value_listed l) (length l))) (λ k w. sym (table_at (value_listed l) (length l) k w))

-- the sums with the first values of a list
pub first_sums : (l m o r : List Date) (p n size : ℕ) → o ≡ table (value_listed m) size → r ≡ table (window (value_listed l) (value_listed o) p n) (length o) → ArePieceSums r l m p n
first_sums l m o r p n size eo er =
    let whole : length o ≡ size = ap length eo ∙ table_length (value_listed m) size in
    let long : length r ≡ length o = ap length er ∙ table_length (window (value_listed l) (value_listed o) p n) (length o) in
    er ∙ ap (table (window (value_listed l) (value_listed o) p n)) (sym long)
    ∙ table_same (window (value_listed l) (value_listed o) p n) (window (value_listed l) (value_listed m) p n) (length r) (λ k w.
    greatest_same (split_of (value_listed l) (value_listed o) k) (split_of (value_listed l) (value_listed m) k) p p (places_to p n k) (λ j u.
    ap (date_product (value_listed l (p + j))) (listed_is (value_listed m) size o eo (k - (p + j)) (omega arith))))

-- no place
pub none_begun : (s t : ℕ → Date) (p n : ℕ) (l : List Date) → l ≡ table (λ _. Early) n → l ≡ table (window s t p 0) n
none_begun s t p n l e = e ∙ table_same (λ _. Early) (window s t p 0) n (λ k w. sym (window_none s t p k))

-- one place more
pub places_more : (l m a r : List Date) (p i : ℕ) → a ≡ table (window (value_listed l) (value_listed m) p i) (length m)
    → r ≡ table (joined_at (value_listed a) (value_listed m) (p + i) (value_listed l (p + i))) (length a) → r ≡ table (window (value_listed l) (value_listed m) p (i + 1)) (length m)
places_more l m a r p i ea er =
    let size : length a ≡ length m = ap length ea ∙ table_length (window (value_listed l) (value_listed m) p i) (length m) in
    joined_listed (window (value_listed l) (value_listed m) p i) (value_listed m) (p + i) (length m) (value_listed l (p + i)) a m r er size ea (own_table m)
    ∙ table_same _ (window (value_listed l) (value_listed m) p (i + 1)) (length m) (λ k w. window_more (value_listed l) (value_listed m) p i k)

-- some turns more
pub turns_more : (l m a r : List Date) (p q n w v : ℕ) (x : ℤ) → RepeatsIn (value_listed l) p q n x → v ≤ w → n * (w + v) ≤ q
    → a ≡ table (window (value_listed l) (value_listed m) p (n * w)) (length m)
    → r ≡ table (joined_at (value_listed a) (value_listed a) (n * v) (At (times v x))) (length a) → r ≡ table (window (value_listed l) (value_listed m) p (n * (w + v))) (length m)
turns_more l m a r p q n w v x again fits room ea er =
    let size : length a ≡ length m = ap length ea ∙ table_length (window (value_listed l) (value_listed m) p (n * w)) (length m) in
    joined_listed (window (value_listed l) (value_listed m) p (n * w)) (window (value_listed l) (value_listed m) p (n * w)) (n * v) (length m) (At (times v x)) a a r er size ea ea
    ∙ table_same _ (window (value_listed l) (value_listed m) p (n * (w + v))) (length m) (λ k u. turns_doubled (value_listed l) (value_listed m) p q n w v k x again fits room)

-- one piece more
pub pieces_more : (l m a b r : List Date) (p i j : ℕ) → a ≡ table (window (value_listed l) (value_listed m) p i) (length m) → b ≡ table (window (value_listed l) (value_listed m) (p + i) j) (length m)
    → r ≡ table (joined_at (value_listed a) (value_listed b) 0 (At (pos 0))) (length a) → r ≡ table (window (value_listed l) (value_listed m) p (i + j)) (length m)
pieces_more l m a b r p i j ea eb er =
    let size : length a ≡ length m = ap length ea ∙ table_length (window (value_listed l) (value_listed m) p i) (length m) in
    joined_listed (window (value_listed l) (value_listed m) p i) (window (value_listed l) (value_listed m) (p + i) j) 0 (length m) (At (pos 0)) a b r er size ea eb
    ∙ table_same _ (window (value_listed l) (value_listed m) p (i + j)) (length m) (λ k w. window_joined (value_listed l) (value_listed m) p i j k)
