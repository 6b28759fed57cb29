-- The plan of a product, as the code computes it.
use Rattle.std.proofs.Common.{◌≡◌, ap, arith, ℕ, ℤ, pos, suc, ◌+◌, ◌-◌, ◌*◌, ◌/◌, ◌≤◌, ◌<◌, sym, ◌∙◌, subst, List}
use Rattle.std.specs.Prelude.{◌<ℤ◌}
use Rattle.std.specs.Int.RustNames.{unsigned_abs}
use Rattle.std.proofs.lemmas.Int.{unsigned_abs-mul, ints}
use Rattle.std.proofs.lemmas.Nat.{mul-le, div_below}
use Rattle.std.proofs.Math.Nat.{le-mul_of_pos_right}
use Rattle.dioid.specs.declared.dates.Date.{Date}
use Rattle.dioid.specs.declared.dates.Date.TheVariants.{At}
use Rattle.series_laws.specs.declared.plans.NeedPlan.{NeedPlan}
use Rattle.series_laws.specs.declared.plans.Slopes.TheVariants.{First}
use Rattle.series_laws.specs.Periodic.{times}
use Rattle.series_laws.specs.SeriesForms.{Form, value_at, table}
use Rattle.series_form.specs.NumberBounds.{IsSeries}
use Rattle.series_laws.specs.Needs.{need_of, by_sign, slopes_by}
use Rattle.series_laws.proofs.Sums.{Serves, sign_first}
use Rattle.series_form.proofs.DateNumbers.{times_product}
use Rattle.series_form.proofs.Finished.{IsTabled}
use Rattle.series_ops.specs.ListFunctions.{all_but_last, last_value}
use Rattle.series_laws.specs.Product.{product_at}
use Rattle.series_laws.proofs.Products.{product_rises, product_serves}
use Rattle.series_ops.proofs.FirstValues.{listed_tabled, product_up_to}
use Rattle.series_laws.specs.ProductNeeds.{product_plan}
use Rattle.series_form.specs.SeriesLimits.{greatest_value, most_common_shifts, most_covering_shifts, most_waits, greatest_moderate, greatest_height}

-- ---- lifts

-- m lifts of l shifts, each with k periods, move by no more than the shifts do
pub lifted_bound : (m k n l : ℕ) (x : ℤ) → k * n ≡ l → 0 < n → m * l ≤ most_covering_shifts → unsigned_abs x ≤ greatest_value → unsigned_abs (times m (times k x)) ≤ greatest_moderate
lifted_bound m k n l x e pos_n low small =
    let a : unsigned_abs (times k x) ≡ k * unsigned_abs x = ap unsigned_abs (times_product k x) ∙ unsigned_abs-mul (pos k) x in
    let b : unsigned_abs (times m (times k x)) ≡ m * unsigned_abs (times k x) = ap unsigned_abs (times_product m (times k x)) ∙ unsigned_abs-mul (pos m) (times k x) in
    let c : k ≤ k * n = le-mul_of_pos_right k pos_n in
    let d : m * k ≤ m * l = mul-le m k m l (omega arith) (omega arith) in
    let f : m * k * unsigned_abs x ≤ most_covering_shifts * greatest_value = mul-le (m * k) (unsigned_abs x) most_covering_shifts greatest_value (omega arith) small in
    let g : m * (k * unsigned_abs x) ≡ m * k * unsigned_abs x = omega arith in
    let h : unsigned_abs (times m (times k x)) ≡ m * (k * unsigned_abs x) = b ∙ ap (λ (z : ℕ). m * z) a in
    omega arith

-- no more periods cover a list than it has values
pub few_covers : (size n : ℕ) → 0 < n → (size + (n - 1)) / n ≤ size
few_covers size n pos_n =
    let up : size ≤ size * n = le-mul_of_pos_right size pos_n in
    let low : (size + (n - 1)) / n < size + 1 = div_below (size + (n - 1)) n (size + 1) pos_n (omega arith) in
    omega arith

-- ---- the cases of the plan

pub product_tabled : (f g : Form) (r : NeedPlan) (l : List Date) → IsSeries f → IsSeries g → r ≡ product_plan f g → need_of r ≤ 20000 → l ≡ table (product_at (value_at f) (value_at g)) (need_of r + 1)
    → IsTabled (product_at (value_at f) (value_at g)) r (all_but_last l) (last_value l)
product_tabled f g r l sf sg e short items = listed_tabled (product_at (value_at f) (value_at g)) r l
    (product_rises (value_at f) (value_at g) sf.canonical.form.rising sg.canonical.form.rising)
    (subst (λ (z : NeedPlan). Serves (product_at (value_at f) (value_at g)) z) (sym e) (product_serves f g sf.canonical.form sg.canonical.form))
    items (λ k w. product_up_to f g sf sg k (omega arith))

-- ---- the plan where the first slope is greater

-- the shifts in which it makes up what it is behind
pub waited_shifts : (n m : ℕ) → n ≤ most_waits → m ≤ most_common_shifts → n * m ≤ greatest_height
waited_shifts n m h k = let all : n * m ≤ most_waits * most_common_shifts = mul-le n m most_waits most_common_shifts h k in omega arith

-- two numbers, of which the first gains
pub numbers_gain : (a b : Date) (s t z : ℤ) → a ≡ At s → b ≡ At t → slopes_by a b z ≡ First → pos 0 <ℤ z
numbers_gain a b s t z ea eb h =
    let w : by_sign z ≡ First = rw (ea, eb) at h in
    let n : (n : ℕ) × (z ≡ pos (suc n)) = sign_first z w in
    omega (arith, ints, n.1)
