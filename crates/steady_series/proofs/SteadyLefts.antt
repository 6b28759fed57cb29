-- Before a steady series a series takes as long as its lead does everywhere.
use Rattle.std.proofs.Common.{ℕ, ℤ, pos, negsuc, zero, suc, ◌+◌, ◌*◌, ◌/◌, ◌≤◌, ◌<◌, ◌≡◌, ◌+ℤ◌, ◌-ℤ◌, true, inl, inr, [], ◌∷◌, Result, Ok, Err, refl, sym, ap, subst, ◌∙◌, arith, ⊎_elim}
use Rattle.std.specs.Prelude.{◌≤ℤ◌, ◌⊎◌, Option, Some, None, IfSome, int_lt}
use Rattle.std.specs.Int.{int_max}
use Rattle.std.proofs.lemmas.Int.{int_max_is, ints}
use Rattle.std.proofs.lemmas.Bool.{cases_Bool, cases_lt}
use Rattle.std.proofs.Math.Nat.{div_self, div-one, eq-or-lt_of_le}
use Rattle.dioid.specs.Dates.{date_left, move}
use Rattle.dioid.specs.declared.algebra.Refused.{Refused}
use Rattle.dioid.specs.declared.algebra.Refused.TheVariants.{Range, OutOfMemory}
use Rattle.dioid.specs.declared.dates.Date.{Date}
use Rattle.dioid.specs.declared.dates.Date.TheVariants.{Early, At, Never}
use Rattle.dioid.specs.DateOrder.{Le}
use Rattle.dioid.specs.ElementAnswers.{Answers}
use Rattle.dioid.proofs.AtMost.{le_antisym, le_is, le_never, le_trans, never_le}
use Rattle.dioid.proofs.Moves.{at_inj, move_zero}
use Rattle.series_laws.specs.Periodic.{Repeats, times}
use Rattle.series_laws.specs.Residual.{IsLeftAt}
use Rattle.series_laws.specs.SeriesForms.{Form, form_with, size_of, repeat_start, value_at, IsForm}
use Rattle.series_laws.specs.declared.plans.Slopes.{Slopes}
use Rattle.series_laws.specs.declared.plans.Slopes.TheVariants.{Equal, First, Second}
use Rattle.series_laws.specs.Needs.{common, need_of, period_with, rise_of, fall_of, tail_of, by_sign, slopes_by, slopes_of}
use Rattle.series_laws.specs.ProductNeeds.{residual_at, long_left, short_left, left_plan_by_slopes, left_plan_by, left_plan, form_left}
use Rattle.series_laws.proofs.Canonical.{constant_is, one_canonical}
use Rattle.series_laws.proofs.Lefts.{left_is, left_mono, form_left_is, form_left_values}
use Rattle.series_laws.proofs.Repeating.{by_steps, repeats_is, repeats_times, times_add}
use Rattle.series_laws.proofs.Sums.{form_repeats_own, tail_number}
use Rattle.series_form.specs.NumberBounds.{HasSmallNumbers}
use Rattle.series_ops.specs.declared.gains.Gain.{Gain}
use Rattle.series_ops.specs.Gains.{gain_left, gain_of, LeftFits}
use Rattle.steady_series.specs.Cuts.{IsUnder}
use Rattle.steady_series.specs.Leads.{IsLeadBelow, IsLeadMore, IsLeadOver, IsLeadTo, IsNumber}

-- the form with one value everywhere
abbrev pub constant : ℤ → Form
constant lead = form_with (At lead ∷ []) 1 (pos 0)

pub constant_form : (lead : ℤ) → IsForm (constant lead)
constant_form lead = (constant_is (At lead) (move_zero (At lead))).0.form

constant_value : (lead : ℤ) (k : ℕ) → value_at (constant lead) k ≡ At lead
constant_value lead k = (constant_is (At lead) (move_zero (At lead))).1 k

-- ---- steady forms

pub steady_period : (g : Form) → IsForm g → size_of g ≡ 1 → g.period ≡ 1
steady_period g is one = let some = is.period_positive in let fits = is.period_fits in omega (arith, some, fits, one)

-- each shift adds the step
pub steady_value : (g : Form) → IsForm g → size_of g ≡ 1 → (start : ℤ) → value_at g 0 ≡ At start → (k : ℕ) → value_at g k ≡ At (start +ℤ times k g.step)
steady_value g is one start e k =
    let period : g.period ≡ 1 = steady_period g is one in
    let from : repeat_start g ≡ 0 = omega (arith, period, one) in
    let own : Repeats (value_at g) 0 g.period g.step = subst (λ (p : ℕ). Repeats (value_at g) p g.period g.step) from (form_repeats_own g is) in
    let by_one : Repeats (value_at g) 0 1 g.step = repeats_is period refl own in
    let many : Repeats (value_at g) 0 (k * 1) (times k g.step) = repeats_times k by_one in
    let here : k ≡ 0 + k * 1 = omega arith in
    ap (value_at g) here ∙ many.at 0 (omega arith) ∙ ap (move (times k g.step)) e

-- ---- the residual

module _ (f g : Form) (lead : ℤ) (h : IsLeadOver f g lead) where
  due : (k : ℕ) → value_at g k ≡ At (h.start +ℤ times k g.step)
  due k = steady_value g h.second h.steady h.start h.starts k

  due_on : (k i : ℕ) → value_at g (k + i) ≡ At (h.start +ℤ (times k g.step +ℤ times i g.step))
  due_on k i = due (k + i) ∙ ap (λ (z : ℤ). At (h.start +ℤ z)) (times_add k i g.step)

  -- the residual by the lead alone
  by_lead : (k : ℕ) → date_left (At lead) (value_at g k) ≡ At ((h.start +ℤ times k g.step) -ℤ lead)
  by_lead k = ap (date_left (At lead)) (due k)

  -- that at the place whose value is just the lead later
  by_place : (k : ℕ) → date_left (value_at f h.place) (value_at g (k + h.place)) ≡ date_left (At lead) (value_at g k)
  by_place k =
      ap (λ (z : Date). date_left z (value_at g (k + h.place))) h.attained ∙ ap (date_left (At (lead +ℤ times h.place g.step))) (due_on k h.place)
      ∙ ap At (omega (arith, ints)) ∙ sym (by_lead k)

  -- no other is less
  no_less : (k i : ℕ) (d : Date) → value_at f i ≡ d → Le (date_left (At lead) (value_at g k)) (date_left (value_at f i) (value_at g (k + i)))
  no_less k i Early e = le_trans (le_never (date_left (At lead) (value_at g k))) (le_is (sym (ap (λ (z : Date). date_left z (value_at g (k + i))) e)))
  no_less k i (At z) e =
      let low : z ≤ℤ (lead +ℤ times i g.step) = h.over i z e in
      let there : date_left (value_at f i) (value_at g (k + i)) ≡ At ((h.start +ℤ (times k g.step +ℤ times i g.step)) -ℤ z) =
      ap (λ (y : Date). date_left y (value_at g (k + i))) e ∙ ap (date_left (At z)) (due_on k i) in
      le_trans (le_is (by_lead k)) (le_trans (record { holds = omega (arith, ints, low) }) (le_is (sym there)))
  no_less k i Never e = absurd (h.numbers i e)

  as_lead : (k : ℕ) (x : Date) → IsLeftAt (value_at (constant lead)) (value_at g) k x → IsLeftAt (value_at f) (value_at g) k x
  as_lead k x left =
      let at_zero : k + 0 ≡ k = omega arith in
      let here : date_left (value_at (constant lead) 0) (value_at g (k + 0)) ≡ date_left (At lead) (value_at g k) =
      ap (λ (z : Date). date_left z (value_at g (k + 0))) (constant_value lead 0) ∙ ap (λ (n : ℕ). date_left (At lead) (value_at g n)) at_zero in
      record {
        below = λ i. le_trans (left.below 0) (le_trans (le_is here) (no_less k i (value_at f i) refl));
        greatest = λ y low. left.greatest y (λ j.
            le_trans (le_trans (low h.place) (le_is (by_place k)))
            (le_trans (left_mono (At lead) (h.second.rising.rises k (k + j) (omega arith)))
            (le_is (sym (ap (λ (z : Date). date_left z (value_at g (k + j))) (constant_value lead j))))));
      }

  residual_same : (k : ℕ) → residual_at f g k ≡ residual_at (constant lead) g k
  residual_same k =
      let own = left_is f g h.first h.second k in
      let other = as_lead k (residual_at (constant lead) g k) (left_is (constant lead) g (constant_form lead) h.second k) in
      le_antisym (other.greatest (residual_at f g k) own.below) (own.greatest (residual_at (constant lead) g k) other.below)

  pub left_same : form_left f g ≡ form_left (constant lead) g
  left_same = one_canonical (form_left f g) (form_left (constant lead) g) (form_left_is f g h.first h.second) (form_left_is (constant lead) g (constant_form lead) h.second)
      (λ k. form_left_values f g h.first h.second k ∙ residual_same k ∙ sym (form_left_values (constant lead) g (constant_form lead) h.second k))

-- ---- what fits

-- no residual of a form that goes on from shift to shift is long, where there is room for a period behind its list
pub left_room : (f g : Form) → IsForm f → g.period ≡ 1 → size_of f ≤ 20000 → size_of g ≤ 20000 → size_of g + f.period ≤ 20001 → need_of (left_plan f g) ≤ 20000
left_room f g isf period short second room = cases (tail_of f) (tail_of g) where
  both : period_with f g ≡ f.period
  both = let same : common f.period g.period ≡ common f.period 1 = ap (common f.period) period in omega (arith, same)

  long : need_of (long_left f g) ≤ 20000
  long = let fits = isf.period_fits in let p = period in let b = both in omega (arith, fits, p, b, short, second, room)

  own : need_of (short_left f g) ≤ 20000
  own = let p = period in omega (arith, p, second)

  by_slopes : (o : Slopes) → need_of (left_plan_by_slopes o f g) ≤ 20000
  by_slopes Equal = long
  by_slopes First = own
  by_slopes Second = long

  cases : (a b : Date) → need_of (left_plan_by a b f g) ≤ 20000
  cases Early b = own
  cases (At s) Early = own
  cases (At s) (At t) = by_slopes (slopes_of f g)
  cases (At s) Never = own
  cases Never Early = own
  cases Never (At t) = own
  cases Never Never = long

-- no residual of a steady form is long
pub left_short : (f g : Form) → IsForm f → IsForm g → size_of g ≡ 1 → size_of f ≤ 20000 → need_of (left_plan f g) ≤ 20000
left_short f g isf isg one short = let fits = isf.period_fits in left_room f g isf (steady_period g isg one) short (omega (arith, one)) (omega (arith, one, fits, short))

-- what is answered of the residual by the lead is answered of that by the form
pub answers_same : (a b : Gain) (lead : ℤ) → IsLeadOver a.series b.series lead → (y : Result Gain Refused)
    → Answers true (LeftFits (gain_of (constant lead)) b) (gain_left (gain_of (constant lead)) b) y → Answers true (LeftFits a b) (gain_left a b) y
answers_same a b lead h (Ok r) answer =
    let same = left_same a.series b.series lead h in (
      answer.0 ∙ ap gain_of (sym same),
      record { short = left_short a.series b.series h.first h.second h.steady h.short; small = subst HasSmallNumbers (sym same) answer.1.small },
    )
answers_same a b lead h (Err Range) answer = λ fits. answer (record {
  short = left_short (constant lead) b.series (constant_form lead) h.second h.steady (omega arith);
  small = subst HasSmallNumbers (left_same a.series b.series lead h) fits.small;
})
answers_same a b lead h (Err OutOfMemory) answer = answer

-- ---- the lead

pub number_is : (d : Date) → IsNumber d → (t : ℤ) × (d ≡ At t)
number_is Early h = absurd h
number_is (At t) h = (t, refl)
number_is Never h = absurd h

not_faster : (z : ℤ) (o : Slopes) → by_sign z ≡ o → (o ≡ First → ⊥) → z ≤ℤ pos 0
not_faster (pos zero) o e h = omega (arith, ints)
not_faster (pos (suc n)) o e h = absurd (h (sym e))
not_faster (negsuc n) o e h = omega (arith, ints)

-- a form whose tail is a number is never Never
pub no_never : (f : Form) → IsForm f → (s : ℤ) → tail_of f ≡ At s → (i : ℕ) → value_at f i ≡ Never → ⊥
no_never f isf s ef i e = ⊎_elim
    (λ (before : i < repeat_start f).
    let c : At s ≡ Never = sym ef ∙ never_le (le_trans (le_is (sym e)) (isf.rising.rises i (repeat_start f) (omega arith))) in absurd cc)
    (λ (from : repeat_start f ≤ i). let there = tail_number f s isf ef i from in let c : At there.0 ≡ Never = sym there.1 ∙ e in absurd cc)
    (cases_lt i (repeat_start f))

-- what is under a level in the list is so everywhere, where a period gains no more than the steps
pub under_all : (f : Form) → IsForm f → (s : ℤ) → tail_of f ≡ At s → (step : ℤ) → f.step ≤ℤ times f.period step → (from : ℕ) → from ≤ repeat_start f → (level : ℤ)
    → IsUnder f step from (size_of f) level → (i : ℕ) (z : ℤ) → from ≤ i → value_at f i ≡ At z → z ≤ℤ (level +ℤ times i step)
under_all f isf s ef step slow from early level listed i z begun e = ⊎_elim
    (λ (within : i < size_of f). listed i z begun within e)
    (λ (past : size_of f ≤ i).
    let fits = isf.period_fits in
    by_steps IsLow (repeat_start f) f.period isf.period_positive (λ k later l. λ y there. listed k y (omega (arith, early, later)) (omega (arith, l, size)) there) next i (omega (arith, past)) z e)
    (cases_lt i (size_of f)) where
      IsLow : ℕ → Type 0
      IsLow k = (y : ℤ) → value_at f k ≡ At y → y ≤ℤ (level +ℤ times k step)

      size : repeat_start f + f.period ≡ size_of f
      size = let fits = isf.period_fits in omega (arith, fits)

      next : (k : ℕ) → repeat_start f ≤ k → IsLow k → IsLow (k + f.period)
      next k later low y there =
          let old = tail_number f s isf ef k later in
          let more : value_at f (k + f.period) ≡ At (old.0 +ℤ f.step) = (form_repeats_own f isf).at k later ∙ ap (move f.step) old.1 in
          let is : y ≡ old.0 +ℤ f.step = at_inj _ _ (sym there ∙ more) in
          let here : old.0 ≤ℤ (level +ℤ times k step) = low old.0 old.1 in
          let sum : times (k + f.period) step ≡ times k step +ℤ times f.period step = times_add k f.period step in
          omega (arith, ints, is, here, sum, slow)

-- the lead of the list is that of all values where a period gains no more than the steps of the steady form
pub lead_of_slow : (f g : Form) → IsForm f → IsForm g → size_of f ≤ 20000 → size_of g ≡ 1 → (s t lead : ℤ) → tail_of f ≡ At s → tail_of g ≡ At t → f.step ≤ℤ times f.period g.step
    → IsLeadBelow f g.step (size_of f) lead → IsLeadOver f g lead
lead_of_slow f g isf isg short one s t lead ef eg slow below = record {
  first = isf;
  second = isg;
  short = short;
  steady = one;
  start = t;
  starts = (let from : repeat_start g ≡ 0 = (let p = steady_period g isg one in omega (arith, p, one)) in subst (λ (p : ℕ). value_at g p ≡ At t) from eg);
  numbers = no_never f isf s ef;
  over = λ i z e. under_all f isf s ef g.step slow 0 (omega arith) lead (λ k y begun within there. below.over k y within there) i z (omega arith) e;
  place = below.place;
  attained = below.attained;
}

-- so it is where the form gains no more than the steady one
pub lead_of_all : (f g : Form) → IsForm f → IsForm g → size_of f ≤ 20000 → size_of g ≡ 1 → (s t lead : ℤ) → tail_of f ≡ At s → tail_of g ≡ At t → (slopes_of f g ≡ First → ⊥)
    → IsLeadBelow f g.step (size_of f) lead → IsLeadOver f g lead
lead_of_all f g isf isg short one s t lead ef eg gentle below = lead_of_slow f g isf isg short one s t lead ef eg slow below where
  period : g.period ≡ 1
  period = steady_period g isg one

  both : period_with f g ≡ f.period
  both = let same : common f.period g.period ≡ common f.period 1 = ap (common f.period) period in omega (arith, same)

  rise : rise_of f g ≡ f.step
  rise =
      let turns : period_with f g / f.period ≡ 1 = ap (λ (n : ℕ). n / f.period) both ∙ div_self isf.period_positive in
      ap (λ (n : ℕ). times n f.step) turns ∙ omega (arith, ints)

  fall : fall_of f g ≡ times f.period g.step
  fall =
      let turns : period_with f g / g.period ≡ f.period = ap (λ (n : ℕ). n / g.period) both ∙ ap (λ (n : ℕ). f.period / n) period ∙ div-one f.period in
      ap (λ (n : ℕ). times n g.step) turns

  slow : f.step ≤ℤ times f.period g.step
  slow =
      let same : slopes_of f g ≡ by_sign (rise_of f g -ℤ fall_of f g) = ap (λ (d : Date). slopes_by d (tail_of g) (rise_of f g -ℤ fall_of f g)) ef ∙ ap (λ (d : Date). slopes_by (At s) d (rise_of f g -ℤ fall_of f g)) eg in
      let low : (rise_of f g -ℤ fall_of f g) ≤ℤ pos 0 = not_faster (rise_of f g -ℤ fall_of f g) (slopes_of f g) (sym same) gentle in
      omega (arith, ints, low, rise, fall)

-- ---- the lead of the list

max_either : (x y : ℤ) → (int_max x y ≡ x) ⊎ (int_max x y ≡ y)
max_either x y = elim (cases_Bool (int_lt y x)) [
  | inl e ↦ inl (rw e refl)
  | inr e ↦ inr (rw e refl)
]

-- where the next value is no number
lead_kept : (f : Form) (step : ℤ) (count : ℕ) (lead : Option ℤ) → ((z : ℤ) → value_at f count ≡ At z → ⊥) → IsLeadTo f step count lead → IsLeadTo f step (count + 1) lead
lead_kept f step count None none old = λ i z within e. ⊎_elim
    (λ (last : i ≡ count). none z (ap (value_at f) (sym last) ∙ e))
    (λ (before : i < count). old i z before e)
    (eq-or-lt_of_le {n = i} {m = count} (omega arith))
lead_kept f step count (Some lead) none old = record {
  over = λ i z within e. ⊎_elim
      (λ (last : i ≡ count). absurd (none z (ap (value_at f) (sym last) ∙ e)))
      (λ (before : i < count). old.over i z before e)
      (eq-or-lt_of_le {n = i} {m = count} (omega arith));
  place = old.place;
  attained = old.attained;
}

-- the value at the next place is over the steps by so much
own_lead : (f : Form) (step : ℤ) (count : ℕ) (date gained : ℤ) → value_at f count ≡ At date → gained ≡ times count step → value_at f count ≡ At ((date -ℤ gained) +ℤ times count step)
own_lead f step count date gained here rise = here ∙ ap At (omega (arith, ints, rise))

lead_begun : (f : Form) (step : ℤ) (count : ℕ) (date gained : ℤ) → IsLeadTo f step count None → value_at f count ≡ At date → gained ≡ times count step
    → IsLeadBelow f step (count + 1) (date -ℤ gained)
lead_begun f step count date gained old here rise = record {
  over = λ i z within e. ⊎_elim
      (λ (last : i ≡ count).
      let is : z ≡ date = at_inj _ _ (sym e ∙ ap (value_at f) last ∙ here) in
      let steps : times i step ≡ times count step = ap (λ (n : ℕ). times n step) last in
      omega (arith, ints, is, steps, rise))
      (λ (before : i < count). absurd (old i z before e))
      (eq-or-lt_of_le {n = i} {m = count} (omega arith));
  place = count;
  attained = own_lead f step count date gained here rise;
}

lead_raised : (f : Form) (step : ℤ) (count : ℕ) (lead date gained : ℤ) → IsLeadBelow f step count lead → value_at f count ≡ At date → gained ≡ times count step
    → IsLeadBelow f step (count + 1) (int_max lead (date -ℤ gained))
lead_raised f step count lead date gained old here rise =
    let own : ℤ = date -ℤ gained in
    let most = int_max_is lead own in
    let low : lead ≤ℤ int_max lead own = omega (arith, ints, most) in
    let high : own ≤ℤ int_max lead own = omega (arith, ints, most) in
    let over : (i : ℕ) (z : ℤ) → i < count + 1 → value_at f i ≡ At z → z ≤ℤ (int_max lead own +ℤ times i step) =
    λ i z within e. ⊎_elim
    (λ (last : i ≡ count).
    let is : z ≡ date = at_inj _ _ (sym e ∙ ap (value_at f) last ∙ here) in
    let steps : times i step ≡ times count step = ap (λ (n : ℕ). times n step) last in
    omega (arith, ints, is, steps, rise, high))
    (λ (before : i < count). let kept = old.over i z before e in omega (arith, ints, kept, low))
    (eq-or-lt_of_le {n = i} {m = count} (omega arith)) in
    ⊎_elim
    (λ (is : int_max lead own ≡ lead).
    record { over = over; place = old.place; attained = old.attained ∙ ap (λ (z : ℤ). At (z +ℤ times old.place step)) (sym is) })
    (λ (is : int_max lead own ≡ own).
    record { over = over; place = count; attained = own_lead f step count date gained here rise ∙ ap (λ (z : ℤ). At (z +ℤ times count step)) (sym is) })
    (max_either lead own)

-- with one value more
pub lead_more : (f : Form) (step : ℤ) (count : ℕ) (lead : Option ℤ) (value : Date) (gained : ℤ) (more : Option ℤ) → IsLeadTo f step count lead → value_at f count ≡ value → gained ≡ times count step
    → IsLeadMore lead value gained more → IsLeadTo f step (count + 1) more
lead_more f step count lead Early gained more old here rise is = subst (IsLeadTo f step (count + 1)) (sym is) (lead_kept f step count lead (λ z e. absurd (let c : Early ≡ At z = sym here ∙ e in cc)) old)
lead_more f step count lead Never gained more old here rise is = subst (IsLeadTo f step (count + 1)) (sym is) (lead_kept f step count lead (λ z e. absurd (let c : Never ≡ At z = sym here ∙ e in cc)) old)
lead_more f step count (Some lead) (At date) gained more old here rise is = subst (IsLeadTo f step (count + 1)) (sym is) (lead_raised f step count lead date gained old here rise)
lead_more f step count None (At date) gained more old here rise is = subst (IsLeadTo f step (count + 1)) (sym is) (lead_begun f step count date gained old here rise)

-- ---- what may be none

pub some_map : {T : Type 0} (o : Option T) {P Q : T → Type 0} → ((x : T) → P x → Q x) → IfSome o P → IfSome o Q
some_map None f h = h
some_map (Some x) f h = f x h
