-- Lists of first values.
use Rattle.std.proofs.Common.{◌≡◌, refl, ap, arith, ℕ, zero, suc, ◌+◌, ◌-◌, ◌≤◌, ◌<◌, sym, ◌∙◌, subst, ⊎_elim, List, [], ◌∷◌, length, get_or, take}
use Rattle.std.proofs.lemmas.Bool.{cases_lt}
use Rattle.std.proofs.lemmas.List.{get_or-take, length-take-le}
use Rattle.std.proofs.Math.ListN.{get_or-eq_default}
use Rattle.dioid.specs.Dates.{date_product}
use Rattle.dioid.specs.declared.dates.Date.{Date}
use Rattle.dioid.specs.declared.dates.Date.TheVariants.{Early, At, Never}
use Rattle.series_laws.specs.declared.plans.NeedPlan.{NeedPlan}
use Rattle.dioid.specs.DateOrder.{Le}
use Rattle.dioid.proofs.AtMost.{le_is, le_trans, le_antisym}
use Rattle.series_laws.specs.Periodic.{Rising}
use Rattle.series_laws.specs.SeriesForms.{Form, value_at, table}
use Rattle.series_laws.proofs.FormValues.{table_at, table_length, same_lists}
use Rattle.series_form.specs.NumberBounds.{IsMagnitudeUpTo, IsSeries}
use Rattle.series_laws.specs.Needs.{need_of}
use Rattle.series_laws.proofs.Sums.{Serves}
use Rattle.series_form.proofs.DateNumbers.{abs_sum}
use Rattle.series_form.proofs.Finished.{IsTabled, up_to_more}
use Rattle.series_form.proofs.PointwiseTables.{later_up_to, listed_up_to}
use Rattle.series_ops.specs.ListFunctions.{value_listed, AreUpTo, all_but_last, last_value}
use Rattle.series_laws.specs.Product.{product_at, greatest_of_first}
use Rattle.series_laws.proofs.ProductsRepeat.{le_product, product_at_le}
use Rattle.series_form.specs.SeriesLimits.{greatest_value_ahead, greatest_listed}

pub table_same : (f g : ℕ → Date) (n : ℕ) → ((k : ℕ) → k < n → f k ≡ g k) → table f n ≡ table g n
table_same f g zero h = refl
table_same f g (suc n) h =
    let first : f 0 ≡ g 0 = h 0 (omega arith) in
    let rest : table (λ i. f (suc i)) n ≡ table (λ i. g (suc i)) n = table_same (λ i. f (suc i)) (λ i. g (suc i)) n (λ k w. h (suc k) (omega arith)) in
    ap (λ (z : Date). z ∷ table (λ i. f (suc i)) n) first ∙ ap (λ (z : List Date). g 0 ∷ z) rest

pub any_default : (l : List Date) (k : ℕ) (a b : Date) → k < length l → get_or l k a ≡ get_or l k b
any_default [] k a b h = absurd (omega arith)
any_default (x ∷ l) zero a b h = refl
any_default (x ∷ l) (suc k) a b h = any_default l k a b (omega arith)

-- ---- the last value is the one after the list

module _ (s : ℕ → Date) (n : ℕ) (l : List Date) (e : l ≡ table s (n + 1)) where
  whole : length l ≡ n + 1
  whole = ap length e ∙ table_length s (n + 1)

  pub begun : all_but_last l ≡ table s n
  begun =
      let k : length l - 1 ≡ n = (let w : length l ≡ n + 1 = whole in omega arith) in
      let fits : n ≤ length l = (let w : length l ≡ n + 1 = whole in omega arith) in
      let a : length (take n l) ≡ n = length-take-le n l fits in
      ap (λ (z : ℕ). take z l) k ∙ same_lists (take n l) (table s n) (a ∙ sym (table_length s n)) (λ j w.
      let u : j < n = omega arith in
      get_or-take n l j Early u ∙ ap (λ (z : List Date). get_or z j Early) e ∙ table_at s (n + 1) j (omega arith) ∙ sym (table_at s n j u))

  pub ends : last_value l ≡ s n
  ends =
      let k : length l - 1 ≡ n = (let w : length l ≡ n + 1 = whole in omega arith) in
      ap (λ (z : ℕ). get_or l z Early) k ∙ ap (λ (z : List Date). get_or z n Early) e ∙ table_at s (n + 1) n (omega arith)

pub listed_tabled : (s : ℕ → Date) (r : NeedPlan) (l : List Date) → Rising s → Serves s r → l ≡ table s (need_of r + 1)
    → ((k : ℕ) → k ≤ need_of r → IsMagnitudeUpTo greatest_listed (s k)) → IsTabled s r (all_but_last l) (last_value l)
listed_tabled s r l up serves e low = record { rising = up; serves = serves; values = begun s (need_of r) l e; next_is = ends s (need_of r) l e; bounded = low }

-- ---- lists of two series

pub listed_is : (s : ℕ → Date) (n : ℕ) (l : List Date) → l ≡ table s n → (k : ℕ) → k < n → value_listed l k ≡ s k
listed_is s n l e k w = ap (λ (z : List Date). get_or z k Early) e ∙ table_at s n k w

-- lists whose numbers are all up to one
pub all_up_to : (m : ℕ) (s : ℕ → Date) (n : ℕ) (l : List Date) → l ≡ table s n → ((k : ℕ) → k < n → IsMagnitudeUpTo m (s k)) → AreUpTo m l
all_up_to m s n l e low k = ⊎_elim
    (λ w. let u : k < n = w in subst (λ (z : Date). IsMagnitudeUpTo m z) (sym (listed_is s n l e k u)) (low k u))
    (λ w.
    let a : length l ≡ n = ap length e ∙ table_length s n in
    let u : length l ≤ k = omega arith in
    subst (λ (z : Date). IsMagnitudeUpTo m z) (sym (get_or-eq_default l Early {n = k} u)) tt)
    (cases_lt k n)

pub all_more : (m n : ℕ) (l : List Date) → m ≤ n → AreUpTo m l → AreUpTo n l
all_more m n l w h k = up_to_more m n (get_or l k Early) w (h k)

pub table_up_to : (f : Form) (n : ℕ) (l : List Date) → IsSeries f → n ≤ 20001 → l ≡ table (value_at f) n → AreUpTo greatest_value_ahead l
table_up_to f n l h short e = all_up_to greatest_value_ahead (value_at f) n l e (λ k w. listed_up_to f h k (omega arith))

half : (s t u v : ℕ → Date) (k : ℕ) → ((i : ℕ) → i ≤ k → s i ≡ u i) → ((i : ℕ) → i ≤ k → t i ≡ v i) → Le (product_at s t k) (product_at u v k)
half s t u v k g h = product_at_le s t k (product_at u v k) (λ i j e.
    let a : i ≤ k = omega arith in
    let b : j ≤ k = omega arith in
    le_trans (le_is (ap (λ z. date_product z (t j)) (g i a) ∙ ap (date_product (u i)) (h j b))) (le_product u v i j k e))

pub product_same : (s t u v : ℕ → Date) (k : ℕ) → ((i : ℕ) → i ≤ k → s i ≡ u i) → ((i : ℕ) → i ≤ k → t i ≡ v i) → product_at s t k ≡ product_at u v k
product_same s t u v k g h = le_antisym (half s t u v k g h) (half u v s t k (λ i w. sym (g i w)) (λ i w. sym (h i w)))

pub added_up_to : (m n : ℕ) (a b : Date) → IsMagnitudeUpTo m a → IsMagnitudeUpTo n b → IsMagnitudeUpTo (m + n) (date_product a b)
added_up_to m n Early b h k = tt
added_up_to m n (At s) Early h k = tt
added_up_to m n (At s) (At t) h k = abs_sum s t m n h k
added_up_to m n (At s) Never h k = tt
added_up_to m n Never Early h k = tt
added_up_to m n Never (At t) h k = tt
added_up_to m n Never Never h k = tt

pub greatest_up_to : (f : ℕ → Date) (n m : ℕ) → ((i : ℕ) → i ≤ n → IsMagnitudeUpTo m (f i)) → IsMagnitudeUpTo m (greatest_of_first f n)
greatest_up_to f zero m h = h 0 (omega arith)
greatest_up_to f (suc n) m h = later_up_to m (greatest_of_first f n) (f (suc n)) (greatest_up_to f n m (λ i w. h i (omega arith))) (h (suc n) (omega arith))

pub product_up_to : (f g : Form) → IsSeries f → IsSeries g → (k : ℕ) → k ≤ 20000 → IsMagnitudeUpTo greatest_listed (product_at (value_at f) (value_at g) k)
product_up_to f g sf sg k w = greatest_up_to (λ i. date_product (value_at f i) (value_at g (k - i))) k greatest_listed (λ i u.
    up_to_more (greatest_value_ahead + greatest_value_ahead) greatest_listed (date_product (value_at f i) (value_at g (k - i))) (omega arith)
    (added_up_to greatest_value_ahead greatest_value_ahead (value_at f i) (value_at g (k - i)) (listed_up_to f sf i (omega arith)) (listed_up_to g sg (k - i) (omega arith))))
