-- Forms with all values moved by a number: their residuals and minima are moved, too, and repeat from where they did.
use Rattle.std.proofs.Common.{ℕ, ℤ, pos, zero, suc, ◌+◌, ◌-◌, ◌*◌, ◌/◌, ◌%◌, ◌<◌, ◌≤◌, ◌≡◌, ◌-ℤ◌, ◌⊎◌, inl, inr, List, [], ◌∷◌, true, false, cond, ltb, length, map}
use Rattle.std.proofs.Common.{get_or, refl, sym, ap, subst, ◌∙◌, arith, ⊎_elim}
use Rattle.std.specs.Prelude.{max}
use Rattle.std.proofs.lemmas.Bool.{cases_Bool, cases_lt}
use Rattle.std.proofs.lemmas.Int.{ints}
use Rattle.std.proofs.lemmas.List.{get_or-map, get_or_past, length-map}
use Rattle.walk_times.specs.dioid.declared.dates.Date.{Date}
use Rattle.walk_times.specs.dioid.declared.dates.Date.TheVariants.{Early, At, Never}
use Rattle.walk_times.specs.dioid.Dates.{move, date_left, earlier_of}
use Rattle.walk_times.specs.dioid.DateOrder.{Le}
use Rattle.walk_times.proofs.dioid_proofs.AtMost.{le_antisym, le_is, le_move_back, le_move_over, le_trans, move_le}
use Rattle.walk_times.proofs.dioid_proofs.Moves.{earlier_move, left_of_move, move_back, move_forth, move_injective, move_swap, move_zero}
use Rattle.walk_times.specs.series_laws.Periodic.{Rising, times}
use Rattle.walk_times.specs.series_laws.SeriesForms.{Form, form_with, gap, size_of, repeat_start, value_at, HasValues, IsForm, IsCanonical}
use Rattle.walk_times.specs.series_laws.Residual.{IsLeftAt}
use Rattle.walk_times.specs.series_laws.declared.plans.NeedPlan.{NeedPlan}
use Rattle.walk_times.specs.series_laws.declared.plans.Slopes.{Slopes}
use Rattle.walk_times.specs.series_laws.declared.plans.Slopes.TheVariants.{Equal, First, Second}
use Rattle.walk_times.specs.series_laws.Needs.{tail_of, slopes_by, slopes_of, rise_of, fall_of, period_with, greatest_int, later_start, lead_of, periods_behind}
use Rattle.walk_times.specs.series_laws.Needs.{ceiling, crossing, crossing_by, least_plan, least_plan_by, form_least, plan}
use Rattle.walk_times.specs.series_laws.ProductNeeds.{left_plan, left_plan_by, left_plan_by_slopes, long_left, offsets_of, short_left, residual_at, form_left}
use Rattle.walk_times.proofs.series_laws_proofs.Canonical.{one_canonical}
use Rattle.walk_times.proofs.series_laws_proofs.Lefts.{left_is, form_left_is, form_left_values}
use Rattle.walk_times.proofs.series_laws_proofs.Sums.{form_least_is, form_least_values}

-- the form with each value moved
abbrev pub moved_form : ℤ → Form → Form
moved_form x f = form_with (map (move x) f.values) f.period f.step

pub moved_size : (x : ℤ) (f : Form) → size_of (moved_form x f) ≡ size_of f
moved_size x f = length-map f.values (move x)

moved_start : (x : ℤ) (f : Form) → repeat_start (moved_form x f) ≡ repeat_start f
moved_start x f = ap (λ (n : ℕ). n - f.period) (moved_size x f)

get_moved : (x : ℤ) (l : List Date) (k : ℕ) → get_or (map (move x) l) k Early ≡ move x (get_or l k Early)
get_moved x l k = ⊎_elim
    (λ (w : k < length l). get_or-map (move x) l k Early Early w)
    (λ (w : length l ≤ k).
    let long : length (map (move x) l) ≡ length l = length-map l (move x) in
    get_or_past (map (move x) l) k Early (omega (arith, w, long)) ∙ ap (move x) (sym (get_or_past l k Early w)))
    (cases_lt k (length l))

-- the value at a shift, of a list with this size
abbrev sized_value : ℕ → List Date → ℕ → ℤ → ℕ → Date
sized_value n l p s k = cond (ltb k n) (get_or l k Early) (move (times ((k - (n - p)) / p) s) (get_or l ((n - p) + (k - (n - p)) % p) Early))

sized_moved : (x : ℤ) (n : ℕ) (l : List Date) (p : ℕ) (s : ℤ) (k : ℕ) → sized_value n (map (move x) l) p s k ≡ move x (sized_value n l p s k)
sized_moved x n l p s k = elim (cases_Bool (ltb k n)) [
  | inl e ↦ rw e (get_moved x l k)
  | inr e ↦ rw e (ap (move (times ((k - (n - p)) / p) s)) (get_moved x l ((n - p) + (k - (n - p)) % p)) ∙ move_swap (times ((k - (n - p)) / p) s) x (get_or l ((n - p) + (k - (n - p)) % p) Early))
]

pub moved_value : (x : ℤ) (f : Form) (k : ℕ) → value_at (moved_form x f) k ≡ move x (value_at f k)
moved_value x f k = ap (λ (n : ℕ). sized_value n (map (move x) f.values) f.period f.step k) (moved_size x f) ∙ sized_moved x (size_of f) f.values f.period f.step k

moved_tail : (x : ℤ) (f : Form) → tail_of (moved_form x f) ≡ move x (tail_of f)
moved_tail x f = ap (value_at (moved_form x f)) (moved_start x f) ∙ moved_value x f (repeat_start f)

pub moved_is_form : (x : ℤ) (f : Form) → IsForm f → IsForm (moved_form x f)
moved_is_form x f is =
    let long : size_of (moved_form x f) ≡ size_of f = moved_size x f in
    let fits : f.period ≤ size_of f = is.period_fits in
    record {
      period_positive = is.period_positive;
      period_fits = omega (arith, long, fits);
      rising = record {
        rises = λ j k w. le_trans (le_is (moved_value x f j)) (le_trans (move_le x (is.rising.rises j k w)) (le_is (sym (moved_value x f k))));
      };
      tail = λ h. is.tail (⊎_elim
          (λ (e : tail_of (moved_form x f) ≡ Never). inl (move_injective x (tail_of f) Never (sym (moved_tail x f) ∙ e)))
          (λ (e : tail_of (moved_form x f) ≡ Early). inr (move_injective x (tail_of f) Early (sym (moved_tail x f) ∙ e)))
          h);
    }

-- a form of the moved function, moved back
back_values : (x : ℤ) (f g : Form) → HasValues g (value_at (moved_form x f)) → HasValues (moved_form (pos 0 -ℤ x) g) (value_at f)
back_values x f g same k = moved_value (pos 0 -ℤ x) g k ∙ (ap (move (pos 0 -ℤ x)) (same k ∙ moved_value x f k) ∙ move_forth x (value_at f k))

pub moved_is_canonical : (x : ℤ) (f : Form) → IsCanonical f → IsCanonical (moved_form x f)
moved_is_canonical x f is = record {
  form = moved_is_form x f is.form;
  least_period = λ g h same. is.least_period (moved_form (pos 0 -ℤ x) g) (moved_is_form (pos 0 -ℤ x) g h) (back_values x f g same);
  least_size = λ g h same e.
      let low : size_of f ≤ size_of (moved_form (pos 0 -ℤ x) g) = is.least_size (moved_form (pos 0 -ℤ x) g) (moved_is_form (pos 0 -ℤ x) g h) (back_values x f g same) e in
      omega (arith, low, moved_size x f, moved_size (pos 0 -ℤ x) g);
}

-- ---- residuals

left_back : (x : ℤ) (a b : Date) → date_left (move x a) b ≡ move (pos 0 -ℤ x) (date_left a b)
left_back x a b = ap (date_left (move x a)) (sym (move_zero b)) ∙ left_of_move x (pos 0) a b

moved_residual : (x : ℤ) (f g : Form) → IsForm f → IsForm g → (k : ℕ) → residual_at (moved_form x f) g k ≡ move (pos 0 -ℤ x) (residual_at f g k)
moved_residual x f g isf isg k =
    let r : Date = residual_at f g k in
    let m : Date = residual_at (moved_form x f) g k in
    let own : IsLeftAt (value_at f) (value_at g) k r = left_is f g isf isg k in
    let moved : IsLeftAt (value_at (moved_form x f)) (value_at g) k m = left_is (moved_form x f) g (moved_is_form x f isf) isg k in
    let each : (i : ℕ) → date_left (value_at (moved_form x f) i) (value_at g (k + i)) ≡ move (pos 0 -ℤ x) (date_left (value_at f i) (value_at g (k + i))) =
    λ i. ap (λ (d : Date). date_left d (value_at g (k + i))) (moved_value x f i) ∙ left_back x (value_at f i) (value_at g (k + i)) in
    let low : Le (move x m) r = own.greatest (move x m) (λ i. le_move_over x (le_trans (moved.below i) (le_is (each i)))) in
    let high : Le (move (pos 0 -ℤ x) r) m = moved.greatest (move (pos 0 -ℤ x) r) (λ i. le_trans (move_le (pos 0 -ℤ x) (own.below i)) (le_is (sym (each i)))) in
    le_antisym (le_move_back x low) high

pub moved_left : (x : ℤ) (f g : Form) → IsForm f → IsForm g → form_left (moved_form x f) g ≡ moved_form (pos 0 -ℤ x) (form_left f g)
moved_left x f g isf isg =
    one_canonical (form_left (moved_form x f) g) (moved_form (pos 0 -ℤ x) (form_left f g))
    (form_left_is (moved_form x f) g (moved_is_form x f isf) isg) (moved_is_canonical (pos 0 -ℤ x) (form_left f g) (form_left_is f g isf isg))
    (λ k. form_left_values (moved_form x f) g (moved_is_form x f isf) isg k
    ∙ (moved_residual x f g isf isg k
    ∙ (ap (move (pos 0 -ℤ x)) (sym (form_left_values f g isf isg k)) ∙ sym (moved_value (pos 0 -ℤ x) (form_left f g) k))))

slopes_left : (x : ℤ) (a b : Date) (z : ℤ) → slopes_by (move x a) b z ≡ slopes_by a b z
slopes_left x Early b z = refl
slopes_left x (At s) Early z = refl
slopes_left x (At s) (At t) z = refl
slopes_left x (At s) Never z = refl
slopes_left x Never b z = refl

slopes_both : (x : ℤ) (a b : Date) (z : ℤ) → slopes_by (move x a) (move x b) z ≡ slopes_by a b z
slopes_both x a Early z = slopes_left x a Early z
slopes_both x Early (At t) z = refl
slopes_both x (At s) (At t) z = refl
slopes_both x Never (At t) z = refl
slopes_both x a Never z = slopes_left x a Never z

moved_offsets : (x : ℤ) (f g : Form) → offsets_of (moved_form x f) g ≡ offsets_of f g
moved_offsets x f g = ap (λ (n : ℕ). max n (repeat_start g) + period_with f g) (moved_start x f)

moved_long : (x : ℤ) (f g : Form) → long_left (moved_form x f) g ≡ long_left f g
moved_long x f g = ap (λ (n : ℕ). plan (max (size_of g) n - g.period) g.period) (moved_offsets x f g)

moved_slopes : (x : ℤ) (f g : Form) → slopes_of (moved_form x f) g ≡ slopes_of f g
moved_slopes x f g =
    ap (λ (d : Date). slopes_by d (tail_of g) (rise_of f g -ℤ fall_of f g)) (moved_tail x f) ∙ slopes_left x (tail_of f) (tail_of g) (rise_of f g -ℤ fall_of f g)

plan_by_slopes : (x : ℤ) (f g : Form) (o : Slopes) → left_plan_by_slopes o (moved_form x f) g ≡ left_plan_by_slopes o f g
plan_by_slopes x f g Equal = moved_long x f g
plan_by_slopes x f g First = refl
plan_by_slopes x f g Second = moved_long x f g

plan_by_tails : (x : ℤ) (f g : Form) (a b : Date) → left_plan_by (move x a) b (moved_form x f) g ≡ left_plan_by a b f g
plan_by_tails x f g Early b = refl
plan_by_tails x f g (At s) Early = refl
plan_by_tails x f g (At s) (At t) = ap (λ (o : Slopes). left_plan_by_slopes o (moved_form x f) g) (moved_slopes x f g) ∙ plan_by_slopes x f g (slopes_of f g)
plan_by_tails x f g (At s) Never = refl
plan_by_tails x f g Never Early = refl
plan_by_tails x f g Never (At t) = refl
plan_by_tails x f g Never Never = moved_long x f g

pub moved_left_plan : (x : ℤ) (f g : Form) → left_plan (moved_form x f) g ≡ left_plan f g
moved_left_plan x f g = ap (λ (d : Date). left_plan_by d (tail_of g) (moved_form x f) g) (moved_tail x f) ∙ plan_by_tails x f g (tail_of f) (tail_of g)

-- ---- minima

pub moved_least : (x : ℤ) (f g : Form) → IsForm f → IsForm g → form_least (moved_form x f) (moved_form x g) ≡ moved_form x (form_least f g)
moved_least x f g isf isg =
    let mf : IsForm (moved_form x f) = moved_is_form x f isf in
    let mg : IsForm (moved_form x g) = moved_is_form x g isg in
    one_canonical (form_least (moved_form x f) (moved_form x g)) (moved_form x (form_least f g))
    (form_least_is (moved_form x f) (moved_form x g) mf mg) (moved_is_canonical x (form_least f g) (form_least_is f g isf isg))
    (λ k. form_least_values (moved_form x f) (moved_form x g) mf mg k
    ∙ (ap (λ (d : Date). earlier_of d (value_at (moved_form x g) k)) (moved_value x f k)
    ∙ (ap (earlier_of (move x (value_at f k))) (moved_value x g k)
    ∙ (earlier_move x (value_at f k) (value_at g k)
    ∙ (ap (move x) (sym (form_least_values f g isf isg k)) ∙ sym (moved_value x (form_least f g) k))))))

gap_moved : (x : ℤ) (a b : Date) → gap (move x a) (move x b) ≡ gap a b
gap_moved x Early b = refl
gap_moved x (At s) Early = refl
gap_moved x (At s) (At t) = omega (arith, ints)
gap_moved x (At s) Never = refl
gap_moved x Never b = refl

greatest_same : (f g : ℕ → ℤ) (n : ℕ) → ((i : ℕ) → f i ≡ g i) → greatest_int f n ≡ greatest_int g n
greatest_same f g n h = ap (λ (z : ℕ → ℤ). greatest_int z n) (λ i k. h k i)

later_same : (x : ℤ) (f g : Form) → later_start (moved_form x f) (moved_form x g) ≡ later_start f g
later_same x f g = ap (λ (n : ℕ). max n (repeat_start (moved_form x g))) (moved_start x f) ∙ ap (max (repeat_start f)) (moved_start x g)

-- the lead from a shift on
abbrev lead_from : ℕ → Form → Form → ℤ
lead_from p f g = greatest_int (λ i. gap (value_at f (p + i)) (value_at g (p + i))) (period_with f g - 1)

lead_same : (x : ℤ) (f g : Form) → lead_of (moved_form x f) (moved_form x g) ≡ lead_of f g
lead_same x f g =
    ap (λ (p : ℕ). lead_from p (moved_form x f) (moved_form x g)) (later_same x f g)
    ∙ greatest_same (λ i. gap (value_at (moved_form x f) (later_start f g + i)) (value_at (moved_form x g) (later_start f g + i)))
    (λ i. gap (value_at f (later_start f g + i)) (value_at g (later_start f g + i))) (period_with f g - 1)
    (λ i. ap (λ (d : Date). gap d (value_at (moved_form x g) (later_start f g + i))) (moved_value x f (later_start f g + i))
    ∙ (ap (gap (move x (value_at f (later_start f g + i)))) (moved_value x g (later_start f g + i))
    ∙ gap_moved x (value_at f (later_start f g + i)) (value_at g (later_start f g + i))))

behind_same : (x : ℤ) (f g : Form) → periods_behind (moved_form x f) (moved_form x g) ≡ periods_behind f g
behind_same x f g = ap (λ (z : ℤ). ceiling z (rise_of f g -ℤ fall_of f g)) (lead_same x f g)

crossing_tails : (x : ℤ) (f g : Form) (a b : Date) → crossing_by (move x a) (move x b) (moved_form x f) (moved_form x g) ≡ crossing_by a b f g
crossing_tails x f g Early b = later_same x f g
crossing_tails x f g (At s) Early = later_same x f g
crossing_tails x f g (At s) (At t) =
    ap (λ (p : ℕ). p + periods_behind (moved_form x f) (moved_form x g) * period_with f g) (later_same x f g)
    ∙ ap (λ (n : ℕ). later_start f g + n * period_with f g) (behind_same x f g)
crossing_tails x f g (At s) Never = later_same x f g
crossing_tails x f g Never b = later_same x f g

crossing_same : (x : ℤ) (f g : Form) → crossing (moved_form x f) (moved_form x g) ≡ crossing f g
crossing_same x f g =
    ap (λ (d : Date). crossing_by d (tail_of (moved_form x g)) (moved_form x f) (moved_form x g)) (moved_tail x f)
    ∙ (ap (λ (d : Date). crossing_by (move x (tail_of f)) d (moved_form x f) (moved_form x g)) (moved_tail x g) ∙ crossing_tails x f g (tail_of f) (tail_of g))

least_slopes : (x : ℤ) (f g : Form) → slopes_of (moved_form x f) (moved_form x g) ≡ slopes_of f g
least_slopes x f g =
    ap (λ (d : Date). slopes_by d (tail_of (moved_form x g)) (rise_of f g -ℤ fall_of f g)) (moved_tail x f)
    ∙ (ap (λ (d : Date). slopes_by (move x (tail_of f)) d (rise_of f g -ℤ fall_of f g)) (moved_tail x g) ∙ slopes_both x (tail_of f) (tail_of g) (rise_of f g -ℤ fall_of f g))

least_by_slopes : (x : ℤ) (f g : Form) (o : Slopes) → least_plan_by o (moved_form x f) (moved_form x g) ≡ least_plan_by o f g
least_by_slopes x f g Equal = ap (λ (p : ℕ). plan p (period_with f g)) (later_same x f g)
least_by_slopes x f g First = ap (λ (p : ℕ). plan p g.period) (crossing_same x f g)
least_by_slopes x f g Second = ap (λ (p : ℕ). plan p f.period) (crossing_same x g f)

pub moved_least_plan : (x : ℤ) (f g : Form) → least_plan (moved_form x f) (moved_form x g) ≡ least_plan f g
moved_least_plan x f g = ap (λ (o : Slopes). least_plan_by o (moved_form x f) (moved_form x g)) (least_slopes x f g) ∙ least_by_slopes x f g (slopes_of f g)
