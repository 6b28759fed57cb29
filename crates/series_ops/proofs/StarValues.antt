-- The star by its first values.
use Rattle.std.proofs.Common.{◌≡◌, refl, ap, arith, ℕ, ℤ, pos, negsuc, zero, suc, ◌+◌, ◌*◌, ◌-◌, ◌≤◌, ◌<◌, ◌+ℤ◌, ◌-ℤ◌, sym, ◌∙◌, subst, ⊎_elim, ◌⊎◌}
use Rattle.std.proofs.Common.{inl, inr, List, [], ◌∷◌, length, get_or, take, true, false, ltb, cond, Result, Ok, Err, to_z, of_z}
use Rattle.std.specs.Int.{w128}
use Rattle.std.proofs.lemmas.Int.{to_z-of_z, ints}
use Rattle.std.specs.Int.RustNames.{unsigned_abs}
use Rattle.std.proofs.lemmas.Bool.{cases_lt}
use Rattle.std.proofs.lemmas.Bool.Decides.{nat_tests}
use Rattle.std.proofs.lemmas.List.{get_or-take, length-take-le}
use Rattle.std.proofs.Math.ListN.{get_or-eq_default}
use Rattle.dioid.specs.Dates.{later_of, date_product, move}
use Rattle.dioid.specs.declared.dates.Date.{Date}
use Rattle.dioid.specs.declared.dates.Date.TheVariants.{Early, At, Never}
use Rattle.series_laws.specs.declared.plans.NeedPlan.{NeedPlan}
use Rattle.series_form.specs.declared.forms.SeriesRefused.{SeriesRefused}
use Rattle.series_form.specs.declared.forms.SeriesRefused.TheVariants.{TooLong, TooGreat, OutOfMemory}
use Rattle.dioid.specs.DateOrder.{Le}
use Rattle.dioid.proofs.AtMost.{le_is, early_le}
use Rattle.series_laws.specs.Periodic.{Rising, Repeats}
use Rattle.series_laws.specs.Pointwise.{sum_at}
use Rattle.series_laws.specs.SeriesForms.{Form, form_with, size_of, repeat_start, value_at, gap, table, IsForm, HasValues, IsCanonical, monomial_at}
use Rattle.series_laws.proofs.FormValues.{table_length, value_in, value_repeats, form_values}
use Rattle.series_laws.proofs.Canonical.{one_canonical, constant_is}
use Rattle.series_form.specs.NumberBounds.{IsMagnitudeUpTo, IsSeries}
use Rattle.series_form.specs.SeriesAnswers.{AnswersOf, IsConstant, IsBeginning, form_before}
use Rattle.series_form.specs.Shapes.{IsCanonicalPart}
use Rattle.series_form.specs.declared.shorten.Shape.{Shape}
use Rattle.series_laws.specs.Needs.{need_of, sum_plan, form_sum}
use Rattle.series_laws.proofs.Sums.{Serves, form_repeats_own}
use Rattle.series_form.proofs.DateNumbers.{abs_difference}
use Rattle.series_form.proofs.Finished.{IsTabled, tabled_begins, up_to_more}
use Rattle.series_laws.proofs.Shifts.{monomial_below, monomial_from}
use Rattle.series_form.proofs.PointwiseTables.{later_up_to, listed_up_to}
use Rattle.series_ops.specs.ListFunctions.{value_listed, AreUpTo, all_but_last, last_value, later_part}
use Rattle.series_laws.specs.Product.{product_at}
use Rattle.series_laws.specs.StarOf.{parts_star, first_parts, from_one, above_zero, IsStarBy, IsStarOf, IsGreatestStarSum}
use Rattle.series_laws.proofs.StarParts.{parts_star_is, first_parts_is, star_rises, parts_star_greatest}
use Rattle.series_laws.proofs.StarsRepeat.{one_star}
use Rattle.series_laws.specs.ProductNeeds.{one_shift, at_least, own_plan, star_plan, star_plan_by, carried_of, star_carried_by, star_need, star_carried}
use Rattle.series_laws.proofs.StarForms.{one_shift_is, one_shift_values, parts_serves}
use Rattle.series_form.specs.SeriesLimits.{greatest_value_ahead, greatest_part_value, greatest_moderate, greatest_listed}
use Rattle.series_ops.proofs.FirstValues.{listed_is, listed_tabled, product_same, added_up_to, greatest_up_to, table_same, all_up_to, all_more}
use Rattle.series_ops.specs.Splits.{tail_product, with_tail}
use Rattle.series_ops.proofs.SplitLaws.{product_from_same, parted_listed, splits_up_to}

star_first : (s : ℕ → Date) → Rising s → (k : ℕ) → first_parts s (parts_star s) k ≡ parts_star s k
star_first s up k = one_star s k (first_parts s (parts_star s) k) (parts_star s k) (first_parts_is s (parts_star s) up k (λ j _. parts_star_is s j)) (parts_star_is s k)

star_up_to : (f : Form) → IsSeries f → (n k : ℕ) → k ≤ n → k ≤ 20000 → IsMagnitudeUpTo (k * greatest_value_ahead) (parts_star (value_at f) k)
star_up_to f h n zero w u = subst (λ (z : Date). IsMagnitudeUpTo (0 * greatest_value_ahead) z) (star_first (value_at f) h.canonical.form.rising 0) (omega arith)
star_up_to f h zero (suc j) w u = absurd (omega arith)
star_up_to f h (suc n) (suc j) w u = subst (λ (z : Date). IsMagnitudeUpTo (suc j * greatest_value_ahead) z) (star_first (value_at f) h.canonical.form.rising (suc j))
    (later_up_to (suc j * greatest_value_ahead) (At (pos 0)) (product_at (later_part (value_at f)) (parts_star (value_at f)) j) (omega arith)
    (greatest_up_to (λ c. date_product (value_at f (suc c)) (parts_star (value_at f) (j - c))) j (suc j * greatest_value_ahead) (λ c v.
    up_to_more (greatest_value_ahead + (j - c) * greatest_value_ahead) (suc j * greatest_value_ahead) (date_product (value_at f (suc c)) (parts_star (value_at f) (j - c))) (omega arith)
    (added_up_to greatest_value_ahead ((j - c) * greatest_value_ahead) (value_at f (suc c)) (parts_star (value_at f) (j - c))
    (listed_up_to f h (suc c) (omega arith)) (star_up_to f h n (j - c) (omega arith) (omega arith))))))

pub star_moderate : (f : Form) → IsSeries f → (k : ℕ) → k ≤ 20000 → IsMagnitudeUpTo greatest_listed (parts_star (value_at f) k)
star_moderate f h k w = up_to_more (k * greatest_value_ahead) greatest_listed (parts_star (value_at f) k) (omega arith) (star_up_to f h k k (omega arith) w)

-- ---- the values from shift 1 on, as a form

module _ (f : Form) (h : IsSeries f) (l : List Date) (e : l ≡ table (later_part (value_at f)) (size_of f)) where
  abbrev later : Form
  later = form_with l f.period f.step

  later_size : length l ≡ size_of f
  later_size = ap length e ∙ table_length (later_part (value_at f)) (size_of f)

  later_repeats : Repeats (later_part (value_at f)) (repeat_start f) f.period f.step
  later_repeats = record { at = λ k w. let here : suc (k + f.period) ≡ suc k + f.period = omega arith in ap (value_at f) here ∙ (form_repeats_own f h.canonical.form).at (suc k) (omega arith) }

  later_is : value_at later ≡ later_part (value_at f)
  later_is =
      let whole : size_of f ≡ repeat_start f + f.period = (let w : f.period ≤ size_of f = h.canonical.form.period_fits in omega arith) in
      ap (λ (z : List Date). value_at (form_with z f.period f.step)) (e ∙ ap (table (later_part (value_at f))) whole)
      ∙ (λ i k. form_values (later_part (value_at f)) (repeat_start f) f.period f.step h.canonical.form.period_positive later_repeats k i)

  pub later_fits : f.period ≤ length l
  later_fits = let w : f.period ≤ size_of f = h.canonical.form.period_fits in let u : length l ≡ size_of f = later_size in omega arith

  pub later_up : AreUpTo greatest_value_ahead l
  later_up = let w : size_of f ≤ 20000 = h.short in all_up_to greatest_value_ahead (later_part (value_at f)) (size_of f) l e (λ k u. listed_up_to f h (suc k) (omega arith))

  -- the sums whose first part is in the tail, by the star so far
  pub later_tails : (k : ℕ) (m : List Date) → m ≡ table (parts_star (value_at f)) (k + 1) → (i : ℕ) → i ≤ k → tail_product later (value_listed m) i ≡ tail_product later (parts_star (value_at f)) i
  later_tails k m em i w = product_from_same (value_at later) (value_listed m) (parts_star (value_at f)) (repeat_start later) i
      (λ j u. listed_is (parts_star (value_at f)) (k + 1) m em j (omega arith))

  pub later_carried : (k : ℕ) (m d : List Date) → m ≡ table (parts_star (value_at f)) (k + 1)
      → d ≡ table (tail_product later (parts_star (value_at f))) k → d ≡ table (tail_product later (value_listed m)) k
  later_carried k m d em ed = ed ∙ table_same (tail_product later (parts_star (value_at f))) (tail_product later (value_listed m)) k (λ i w. sym (later_tails k m em i (omega arith)))

  pub later_tails_up : (k : ℕ) (d : List Date) → k ≤ 20000 → d ≡ table (tail_product later (parts_star (value_at f))) k → AreUpTo greatest_moderate d
  later_tails_up k d short ed = splits_up_to (value_at later) (parts_star (value_at f)) (repeat_start later) k (greatest_value_ahead + 20000 * greatest_value_ahead) greatest_moderate d ed
      (λ i j u. added_up_to greatest_value_ahead (20000 * greatest_value_ahead) (value_at later i) (parts_star (value_at f) j)
      (subst (λ (z : ℕ → Date). IsMagnitudeUpTo greatest_value_ahead (z i)) (sym later_is) (listed_up_to f h (suc i) (omega arith)))
      (up_to_more (j * greatest_value_ahead) (20000 * greatest_value_ahead) (parts_star (value_at f) j) (omega arith) (star_up_to f h j j (omega arith) (omega arith))))
      (omega arith)

  -- the star after k by the splits below the tail and those in the tail
  pub star_next : (k p : ℕ) (m : List Date) (d : Date) → m ≡ table (parts_star (value_at f)) (k + 1) → p ≡ repeat_start f → d ≡ tail_product later (value_listed m) k
      → later_of (At (pos 0)) (with_tail (value_listed l) (value_listed m) p d k) ≡ parts_star (value_at f) (suc k)
  star_next k p m d em ep ed =
      let from : p ≡ repeat_start later = ep ∙ (let u : length l ≡ size_of f = later_size in omega arith) in
      ap (later_of (At (pos 0))) (parted_listed later (value_listed m) k p d from ed
      ∙ ap (λ (z : ℕ → Date). product_at z (value_listed m) k) later_is
      ∙ product_same (later_part (value_at f)) (value_listed m) (later_part (value_at f)) (parts_star (value_at f)) k (λ i u. refl)
      (λ i u. listed_is (parts_star (value_at f)) (k + 1) m em i (omega arith)))
      ∙ star_first (value_at f) h.canonical.form.rising (suc k)

pub star_tabled : (f : Form) (r : NeedPlan) (l : List Date) → IsSeries f → Le (value_at f 0) (At (pos 0)) → r ≡ star_plan f → need_of r ≤ 20000 → l ≡ table (parts_star (value_at f)) (need_of r + 1)
    → IsTabled (parts_star (value_at f)) r (all_but_last l) (last_value l)
star_tabled f r l h low e short items = listed_tabled (parts_star (value_at f)) r l
    (record { rises = λ j k w. star_rises (value_at f) h.canonical.form.rising j k w })
    (subst (λ (z : NeedPlan). Serves (parts_star (value_at f)) z) (sym e) (parts_serves f h.canonical.form low))
    items (λ k w. star_moderate f h k (omega arith))

-- ---- the numbers of the sum's canonical form

sum_up_to : (f g : Form) → IsSeries f → IsSeries g → (k : ℕ) → k ≤ 20000 → IsMagnitudeUpTo greatest_value_ahead (sum_at (value_at f) (value_at g) k)
sum_up_to f g sf sg k w = later_up_to greatest_value_ahead (value_at f k) (value_at g k) (listed_up_to f sf k w) (listed_up_to g sg k w)

step_of_tail : (g : Form) (m : ℕ) → IsCanonical g → ((k : ℕ) → k ≤ size_of g → IsMagnitudeUpTo m (value_at g k)) → unsigned_abs g.step ≤ m + m
step_of_tail g m cg low = cases (value_at g (repeat_start g)) refl where
  fits : g.period ≤ size_of g
  fits = cg.form.period_fits

  again : Repeats (value_at g) (repeat_start g) g.period g.step
  again = value_repeats g cg.form.period_positive cg.form.period_fits

  none : g.step ≡ pos 0 → unsigned_abs g.step ≤ m + m
  none e = let u : unsigned_abs g.step ≡ 0 = ap unsigned_abs e in omega arith

  cases : (d : Date) → value_at g (repeat_start g) ≡ d → unsigned_abs g.step ≤ m + m
  cases Early e = none (cg.form.tail (inr e)).1
  cases (At v) e =
      let next : value_at g (repeat_start g + g.period) ≡ At (v +ℤ g.step) = again.at (repeat_start g) (omega arith) ∙ ap (move g.step) e in
      let a : unsigned_abs v ≤ m = subst (λ (z : Date). IsMagnitudeUpTo m z) e (low (repeat_start g) (omega arith)) in
      let b : unsigned_abs (v +ℤ g.step) ≤ m = subst (λ (z : Date). IsMagnitudeUpTo m z) next (low (repeat_start g + g.period) (let w : g.period ≤ size_of g = fits in omega arith)) in
      let d : unsigned_abs ((v +ℤ g.step) -ℤ v) ≤ m + m = abs_difference (v +ℤ g.step) v m m b a in
      let e : (v +ℤ g.step) -ℤ v ≡ g.step = omega (arith, ints) in
      subst (λ (z : ℤ). unsigned_abs z ≤ m + m) e d
  cases Never e = none (cg.form.tail (inl e)).1

moved_to : (m : ℕ) (a b : Date) → IsMagnitudeUpTo m a → IsMagnitudeUpTo m b → IsMagnitudeUpTo m (move (gap a b) a)
moved_to m Early b h k = tt
moved_to m (At s) Early h k = let e : s +ℤ pos 0 ≡ s = omega (arith, ints) in subst (λ (z : ℤ). unsigned_abs z ≤ m) (sym e) h
moved_to m (At s) (At t) h k = let e : s +ℤ (t -ℤ s) ≡ t = omega (arith, ints) in subst (λ (z : ℤ). unsigned_abs z ≤ m) (sym e) k
moved_to m (At s) Never h k = let e : s +ℤ pos 0 ≡ s = omega (arith, ints) in subst (λ (z : ℤ). unsigned_abs z ≤ m) (sym e) h
moved_to m Never b h k = tt

pub begun_up_to : (m : ℕ) (l : List Date) (n : ℕ) (next : Date) → 0 < n → n ≤ length l → AreUpTo m l → IsMagnitudeUpTo m next → (k : ℕ)
    → k ≤ length l → IsMagnitudeUpTo m (value_at (form_before l n next) k)
begun_up_to m l n next pos_n fits low last k w = ⊎_elim
    (λ short. subst (λ (z : Date). IsMagnitudeUpTo m z) (sym (value_in (form_before l n next) k short)) (low k))
    (λ long.
    let here : (length l - n) + n ≡ k = omega arith in
    let again : Repeats (value_at (form_before l n next)) (length l - n) n (gap (get_or l (length l - n) Early) next) = value_repeats (form_before l n next) pos_n fits in
    let begin : value_at (form_before l n next) (length l - n) ≡ get_or l (length l - n) Early = value_in (form_before l n next) (length l - n) (omega arith) in
    let e : value_at (form_before l n next) k ≡ move (gap (get_or l (length l - n) Early) next) (get_or l (length l - n) Early) =
    ap (value_at (form_before l n next)) (sym here) ∙ again.at (length l - n) (omega arith) ∙ ap (move (gap (get_or l (length l - n) Early) next)) begin in
    subst (λ (z : Date). IsMagnitudeUpTo m z) (sym e) (moved_to m (get_or l (length l - n) Early) next (low (length l - n)) last))
    (cases_lt k (length l))

pub part_step : (m : ℕ) (l : List Date) (n : ℕ) (next : Date) (g : Form) → 0 < n → n ≤ length l → AreUpTo m l → IsMagnitudeUpTo m next
    → IsCanonical g → HasValues g (value_at (form_before l n next)) → size_of g ≤ length l → unsigned_abs g.step ≤ m + m
part_step m l n next g pos_n fits low last cg has short = step_of_tail g m cg (λ k w.
    subst (λ (z : Date). IsMagnitudeUpTo m z) (sym (has k)) (begun_up_to m l n next pos_n fits low last k (omega arith)))

pub taken_up_to : (m k : ℕ) (l : List Date) → k ≤ length l → AreUpTo m l → AreUpTo m (take k l)
taken_up_to m k l fits low i = ⊎_elim
    (λ w. subst (λ (z : Date). IsMagnitudeUpTo m z) (sym (get_or-take k l i Early w)) (low i))
    (λ w. let e : length (take k l) ≡ k = length-take-le k l fits in subst (λ (z : Date). IsMagnitudeUpTo m z) (sym (get_or-eq_default (take k l) Early {n = i} (omega arith))) tt)
    (cases_lt i k)

part_ready : (l m : List Date) (n : ℕ) (next : Date) (s : Shape) → IsBeginning l n next → IsCanonicalPart l n next s
    → AreUpTo greatest_value_ahead l → IsMagnitudeUpTo greatest_value_ahead next → m ≡ take s.size l
    → (0 < s.period) × (length m ≤ 20000) × (s.period ≤ length m) × (unsigned_abs (to_z w128 (of_z w128 s.step)) ≤ greatest_part_value) × AreUpTo greatest_part_value m
part_ready l m n next s b h low last e =
    let size : length (take s.size l) ≡ s.size = length-take-le s.size l h.fits in
    let same : length m ≡ s.size = ap length e ∙ size in
    let fits : s.size ≤ length l = h.fits in
    let short : length l ≤ 20000 = b.short in
    let inside : s.period ≤ length (take s.size l) = h.canonical.form.period_fits in
    let step : unsigned_abs s.step ≤ greatest_value_ahead + greatest_value_ahead =
    part_step greatest_value_ahead l n next (form_with (take s.size l) s.period s.step) b.positive b.fits low last h.canonical h.values (omega arith) in
    let small : unsigned_abs s.step ≤ greatest_part_value = omega arith in (
      h.canonical.form.period_positive,
      omega arith,
      omega arith,
      subst (λ (z : ℤ). unsigned_abs z ≤ greatest_part_value) (sym (to_z-of_z w128 s.step h.step_fits)) small,
      all_more greatest_value_ahead greatest_part_value m (omega arith) (subst (λ (z : List Date). AreUpTo greatest_value_ahead z) (sym e) (taken_up_to greatest_value_ahead s.size l fits low)),
    )

-- the form of the part
pub part_form : (k l m : List Date) (n : ℕ) (next : Date) (s : Shape) → k ≡ l → IsCanonicalPart k n next s → m ≡ take s.size l → (g : Form) → IsCanonical g
    → HasValues g (value_at (form_before l n next)) → form_with m s.period (to_z w128 (of_z w128 s.step)) ≡ g
part_form k l m n next s ek hk e g cg has =
    let h : IsCanonicalPart l n next s = subst (λ (z : List Date). IsCanonicalPart z n next s) ek hk in
    ap (form_with m s.period) (to_z-of_z w128 s.step h.step_fits) ∙ ap (λ (z : List Date). form_with z s.period s.step) e
    ∙ one_canonical (form_with (take s.size l) s.period s.step) g h.canonical cg (λ i. h.values i ∙ sym (has i))

-- the values of a sum
sums_up_to : (f g : Form) → IsSeries f → IsSeries g → (n : ℕ) (l : List Date) → n ≤ 20000 → l ≡ table (sum_at (value_at f) (value_at g)) n → AreUpTo greatest_value_ahead l
sums_up_to f g sf sg n l short e = all_up_to greatest_value_ahead (sum_at (value_at f) (value_at g)) n l e (λ k w. sum_up_to f g sf sg k (omega arith))

-- what the plan by the canonical part of a sum asks
pub sum_ready : (f g : Form) (r : NeedPlan) (k l m : List Date) (next : Date) (s : Shape) → IsSeries f → IsSeries g → IsTabled (sum_at (value_at f) (value_at g)) r l next → need_of r ≤ 20000
    → k ≡ l → IsCanonicalPart k r.turn next s → m ≡ take s.size l
    → (0 < s.period) × (length m ≤ 20000) × (s.period ≤ length m) × (unsigned_abs (to_z w128 (of_z w128 s.step)) ≤ greatest_part_value) × AreUpTo greatest_part_value m
sum_ready f g r k l m next s sf sg tabled short ek h e =
    part_ready l m r.turn next s (tabled_begins (sum_at (value_at f) (value_at g)) r l next tabled short) (subst (λ (z : List Date). IsCanonicalPart z r.turn next s) ek h)
    (sums_up_to f g sf sg (need_of r) l short tabled.values) (subst (λ (z : Date). IsMagnitudeUpTo greatest_value_ahead z) (sym tabled.next_is) (sum_up_to f g sf sg (need_of r) short)) e

-- ---- the monomial of shift 1 and date 0

one_canonical_is : IsCanonical one_shift
one_canonical_is = record {
  form = one_shift_is;
  least_period = λ g is _. is.period_positive;
  least_size = λ g is same e. by_size g is same e (cases_lt (size_of g) 2);
} where
  by_size : (g : Form) → IsForm g → HasValues g (value_at one_shift) → g.period ≡ 1 → (size_of g < 2) ⊎ (2 ≤ size_of g) → 2 ≤ size_of g
  by_size g is same e (inr w) = w
  by_size g is same e (inl w) = absurd (
      let fits : g.period ≤ size_of g = is.period_fits in
      let again : Repeats (value_at g) (repeat_start g) g.period g.step = value_repeats g is.period_positive is.period_fits in
      let none : value_at g 0 ≡ Early = same 0 ∙ one_shift_values 0 in
      let one : 0 + g.period ≡ 1 = omega arith in
      let next : value_at g 1 ≡ Early = ap (value_at g) (sym one) ∙ again.at 0 (omega arith) ∙ ap (move g.step) none in
      let is_zero : value_at g 1 ≡ At (pos 0) = same 1 ∙ one_shift_values 1 in
      let c : Early ≡ At (pos 0) = sym next ∙ is_zero in cc)

pub one_is : (g : Form) → IsCanonical g → HasValues g (monomial_at 1 (pos 0)) → g ≡ one_shift
one_is g cg has = one_canonical g one_shift cg one_canonical_is (λ k. has k ∙ values k ∙ sym (one_shift_values k)) where
  values : (k : ℕ) → monomial_at 1 (pos 0) k ≡ from_one k
  values zero = monomial_below 1 (pos 0) 0 (omega arith)
  values (suc k) = monomial_from 1 (pos 0) (suc k) (omega arith)

-- ---- the answers

pub long_need : (f : Form) (n : ℕ) → n ≡ need_of (sum_plan f one_shift) → 20000 < n → (20000 < need_of (star_plan f)) × (n ≡ carried_of f)
long_need f n e h =
    let long : ltb 20000 (need_of (sum_plan f one_shift)) ≡ true = grind (arith, nat_tests) in
    (long_star (need_of (sum_plan f one_shift)) (own_plan (form_sum f one_shift)) (omega arith), e ∙ sym (ap (λ z. cond z (need_of (sum_plan f one_shift)) (need_of (star_plan f))) long)) where
      long_star : (m : ℕ) (r : NeedPlan) → 20000 < m → 20000 < need_of (at_least m r)
      long_star m r w = omega arith

pub short_carried : (f : Form) → need_of (sum_plan f one_shift) ≤ 20000 → carried_of f ≡ need_of (star_plan f)
short_carried f h = let short : ltb 20000 (need_of (sum_plan f one_shift)) ≡ false = grind (arith, nat_tests) in ap (λ z. cond z (need_of (sum_plan f one_shift)) (need_of (star_plan f))) short

answers_map : (is js : Form → Type 0) (n m : ℕ) (x : Result Form SeriesRefused) → ((r : Form) → is r → js r) → AnswersOf is n m x → AnswersOf js n m x
answers_map is js n m (Ok r) h a = (a.0, h r a.1, a.2)
answers_map is js n m (Err (TooLong k)) h a = a
answers_map is js n m (Err (TooGreat v)) h a = (a.0, record { form = a.1.form; canonical = a.1.canonical; values = h a.1.form a.1.values; number = a.1.number })
answers_map is js n m (Err OutOfMemory) h a = tt

pub not_above : (d : Date) → above_zero d ≡ false → Le d (At (pos 0))
not_above Early h = early_le (At (pos 0))
not_above (At (pos zero)) h = le_is refl
not_above (At (pos (suc n))) h = absurd cc
not_above (At (negsuc n)) h = record { holds = omega (arith, ints) }
not_above Never h = absurd cc

pub low_answer : (f : Form) (x : Result Form SeriesRefused) → above_zero (value_at f 0) ≡ false → AnswersOf (λ r. HasValues r (parts_star (value_at f))) (need_of (star_plan f)) (carried_of f) x
    → AnswersOf (λ r. (k : ℕ) → IsStarOf (value_at f) k (value_at r k)) (star_need f) (star_carried f) x
low_answer f x h a = cases (value_at f 0) h where
  sums : AnswersOf (λ r. (k : ℕ) → IsGreatestStarSum (value_at f) k (value_at r k)) (need_of (star_plan f)) (carried_of f) x
  sums = answers_map (λ r. HasValues r (parts_star (value_at f))) (λ r. (k : ℕ) → IsGreatestStarSum (value_at f) k (value_at r k)) (need_of (star_plan f)) (carried_of f) x
      (λ r e k. subst (λ (z : Date). IsGreatestStarSum (value_at f) k z) (sym (e k)) (parts_star_greatest (value_at f) k)) a

  cases : (d : Date) → above_zero d ≡ false → AnswersOf (λ r. (k : ℕ) → IsStarBy d (value_at f) k (value_at r k)) (need_of (star_plan_by d f)) (star_carried_by d f) x
  cases Early w = sums
  cases (At (pos zero)) w = sums
  cases (At (pos (suc n))) w = absurd cc
  cases (At (negsuc n)) w = sums
  cases Never w = absurd cc

never_value : (r : Form) → r ≡ form_with (Never ∷ []) 1 (pos 0) → (k : ℕ) → value_at r k ≡ Never
never_value r e k = ap (λ (z : Form). value_at z k) e ∙ (constant_is Never refl).1 k

pub high_answer : (f : Form) (x : Result Form SeriesRefused) → above_zero (value_at f 0) ≡ true → IsConstant Never x
    → AnswersOf (λ r. (k : ℕ) → IsStarOf (value_at f) k (value_at r k)) (star_need f) (star_carried f) x
high_answer f x h a = cases (value_at f 0) h where
  constant : (y : Result Form SeriesRefused) → IsConstant Never y → AnswersOf (λ r. (k : ℕ) → value_at r k ≡ Never) 1 1 y
  constant (Ok r) b = (b.1, never_value r b.0, omega arith)
  constant (Err (TooLong n)) b = absurd b
  constant (Err (TooGreat v)) b = absurd b
  constant (Err OutOfMemory) b = tt

  cases : (d : Date) → above_zero d ≡ true → AnswersOf (λ r. (k : ℕ) → IsStarBy d (value_at f) k (value_at r k)) (need_of (star_plan_by d f)) (star_carried_by d f) x
  cases Early w = absurd cc
  cases (At (pos zero)) w = absurd cc
  cases (At (pos (suc n))) w = constant x a
  cases (At (negsuc n)) w = absurd cc
  cases Never w = constant x a
