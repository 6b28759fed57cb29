-- What the lead of walk times over a steady due series tells of a row.
use Rattle.std.proofs.Common.{ℕ, ℤ, true, ◌+◌, ◌/◌, ◌≡◌, ◌+ℤ◌, ◌-ℤ◌, List, Some, Result, Ok, Err, refl, sym, ap, subst, ◌∙◌, arith, ⊎_elim}
use Rattle.std.specs.Prelude.{◌≤ℤ◌, Option, None, IfSome, slice_get}
use Rattle.std.proofs.lemmas.Int.{ints}
use Rattle.std.proofs.Math.Nat.{div-one}
use Rattle.dioid.specs.ElementAnswers.{Answers}
use Rattle.dioid.specs.declared.algebra.Refused.{Refused}
use Rattle.dioid.specs.declared.algebra.Refused.TheVariants.{Range, OutOfMemory as NoRoom}
use Rattle.dioid.specs.declared.dates.Date.{Date}
use Rattle.dioid.specs.declared.dates.Date.TheVariants.{Early, At, Never}
use Rattle.forever_laws.specs.series_laws.Periodic.{times}
use Rattle.forever_laws.specs.series_laws.SeriesForms.{Form, HasValues, IsForm, form_with, repeat_start, size_of, value_at}
use Rattle.forever_laws.proofs.series_laws_proofs.Repeating.{times_add}
use Rattle.series_form.specs.NumberBounds.{IsSeries}
use Rattle.series_ops.specs.declared.gains.Gain.{Gain}
use Rattle.series_ops.specs.Gains.{gain_left, gain_of, LeftFits}
use Rattle.steady_series.specs.Leads.{IsLeadBelow, IsLeadMore, IsLeadOver}
use Rattle.steady_series.proofs.SteadyLefts.{answers_same, constant, lead_more, lead_of_slow, steady_period}
use Rattle.teg_net.specs.declared.entries.TransitionId.{TransitionId}
use Rattle.teg_net.specs.Nets.{NetLists}
use Rattle.teg_settle.specs.walk_times.Transfers.{IsGreatestWalkTime}
use Rattle.endless_due.specs.declared.row.EndlessRow.{EndlessRow}
use Rattle.forever_laws.specs.SeriesColumns.{IsDueSeries, IsWalkSeries}
use Rattle.forever_laws.proofs.OneColumn.{one_due, one_time}
use Rattle.forever_laws.specs.settled_laws.SettledForms.{SettledForm, row_of, step_of_form}
use Rattle.teg_forever.specs.Alike.{told_form}
use Rattle.teg_forever.specs.Divisions.{IsRefusedAt, IsRowResidual, refusal_at}
use Rattle.teg_forever.specs.SteadyRows.{AnswersEach, HasForm, IsToldLeft, IsWalkList, IsWalkTo}

-- ---- the lead of a list

-- before any value is gone through, the lead is that of the value from which the values repeat
pub lead_begun : (f : Form) (step tail : ℤ) → value_at f (repeat_start f) ≡ At (tail +ℤ times (repeat_start f) step) → IsLeadBelow f step 0 tail
lead_begun f step tail e = record { over = λ i z within here. absurd (omega arith); place = repeat_start f; attained = e }

-- with one value more
pub lead_on : (f : Form) (step : ℤ) (count : ℕ) (lead : ℤ) (value : Date) (gained more : ℤ) → IsLeadBelow f step count lead → value_at f count ≡ value → gained ≡ times count step
    → IsLeadMore (Some lead) value gained (Some more) → IsLeadBelow f step (count + 1) more
lead_on f step count lead value gained more old here rise is = lead_more f step count (Some lead) value gained (Some more) old here rise is

-- the steps up to the next place
pub gained_on : (count : ℕ) (step gained : ℤ) → gained ≡ times count step → (gained +ℤ step) ≡ times (count + 1) step
gained_on count step gained e = let sum : times (count + 1) step ≡ times count step +ℤ times 1 step = times_add count 1 step in omega (arith, ints, e, sum)

-- the lead of the value from which the values repeat
pub tail_told : (f g : Form) → IsForm g → size_of g ≡ 1 → (start : ℕ) → start ≡ repeat_start f → (date gained : ℤ) → value_at f start ≡ At date → gained ≡ times (start / g.period) g.step
    → (told : Option ℤ) → IfSome told (λ own. own ≡ date -ℤ gained) → IfSome told (λ lead. value_at f (repeat_start f) ≡ At (lead +ℤ times (repeat_start f) g.step))
tail_told f g isg one start from date gained here rise None h = tt
tail_told f g isg one start from date gained here rise (Some own) h =
    let period : g.period ≡ 1 = steady_period g isg one in
    let turns : start / g.period ≡ start = ap (λ (n : ℕ). start / n) period ∙ div-one start in
    let steps : gained ≡ times (repeat_start f) g.step = rise ∙ ap (λ (n : ℕ). times n g.step) (turns ∙ from) in
    sym (ap (value_at f) from) ∙ here ∙ ap At (omega (arith, ints, steps, h))

list_form : (f : Form) → IsWalkList f → (s : ℤ) → value_at f (repeat_start f) ≡ At s → IsForm f
list_form f h s e = record {
  period_positive = h.some;
  period_fits = h.fits;
  rising = h.rising;
  tail = λ o. ⊎_elim (λ (n : value_at f (repeat_start f) ≡ Never). let c : At s ≡ Never = sym e ∙ n in absurd cc) (λ (n : value_at f (repeat_start f) ≡ Early). let c : At s ≡ Early = sym e ∙ n in absurd cc) o;
}

-- the lead of the list is that of all values
pub lead_of_list : (f g : Form) → IsWalkList f → IsSeries g → size_of g ≡ 1 → (s t lead : ℤ) → value_at f (repeat_start f) ≡ At s → value_at g (repeat_start g) ≡ At t
    → f.step ≤ℤ times f.period g.step → IsLeadBelow f g.step (size_of f) lead → IsLeadOver f g lead
lead_of_list f g h is one s t lead ef eg slow below = lead_of_slow f g (list_form f h s ef) is.canonical.form h.few one s t lead ef eg slow below

-- ---- the residual

lead_moved : (f g w : Form) (lead : ℤ) → IsLeadOver f g lead → IsSeries w → HasValues w (value_at f) → IsLeadOver w g lead
lead_moved f g w lead h is same = record {
  first = is.canonical.form;
  second = h.second;
  short = is.short;
  steady = h.steady;
  start = h.start;
  starts = h.starts;
  numbers = λ i e. h.numbers i (sym (same i) ∙ e);
  over = λ i z e. h.over i z (sym (same i) ∙ e);
  place = h.place;
  attained = same h.place ∙ h.attained;
}

-- what the lead alone answers is answered by each series of the list
pub told_by_lead : (f : Form) (b : Gain) (lead : ℤ) → IsLeadOver f b.series lead → (y : Result Gain Refused)
    → Answers true (LeftFits (gain_of (constant lead)) b) (gain_left (gain_of (constant lead)) b) y → AnswersEach (HasForm f) b y
told_by_lead f b lead h y answer w is = answers_same w b lead (lead_moved f b.series w.series lead h is.0 is.1) y answer

-- and by each of fewer series
pub told_each : (P Q : Gain → Type 0) (b : Gain) (y : Result (Option Gain) Refused) → ((w : Gain) → Q w → P w) → IsToldLeft P b y → IsToldLeft Q b y
told_each P Q b (Ok (Some r)) f h = λ w q. h w (f w q)
told_each P Q b (Ok None) f h = tt
told_each P Q b (Err why) f h = λ w q. h w (f w q)

-- the series of walk times has the values of their list
pub walk_has_form : (net : NetLists) (u t : ℕ) (f : Form) → ((k : ℕ) → IsGreatestWalkTime net u t (k + 1) (value_at f k)) → ((h : Form) → IsWalkSeries net u t h → IsSeries h)
    → (w : Gain) → IsWalkTo net u t w → HasForm f w
walk_has_form net u t f each fits w is = (fits w.series is, λ k. one_time net u t (k + 1) (value_at w.series k) (value_at f k) (is.times k) (each k))

-- a list of walk times is that which the form tells
pub told_is : (f : SettledForm) (t : ℕ) (l : List Date) (n : ℕ) (x : ℤ) → l ≡ row_of f t → n ≡ f.period → x ≡ step_of_form f t → form_with l n x ≡ told_form f t
told_is f t l n x a b e = ap (λ (z : List Date). form_with z n x) a ∙ ap (λ (z : ℕ). form_with (row_of f t) z x) b ∙ ap (form_with (row_of f t) f.period) e

-- ---- a row

module _ (net : NetLists) (rows : List EndlessRow) (i : ℕ) (r : EndlessRow) (at : slice_get rows i ≡ Some r) (due : Gain) (is : IsDueSeries r due.series) where
  pub row_told : (u : ℕ) (told : Option Gain) → IsToldLeft (IsWalkTo net u r.transition.index) due (Ok told) → IfSome told (IsRowResidual net rows u i)
  row_told u None h = tt
  row_told u (Some q) h = λ walks dues columns.
      let same : due ≡ dues i = one_due r due (dues i) is (columns.due_series i r at) in
      let answer = h (walks i) (columns.walk_series i r at) in (
        answer.0 ∙ ap (gain_left (walks i)) same,
        subst (LeftFits (walks i)) same answer.1,
      )

  pub row_refused : (id : TransitionId) (why : Refused) → IsToldLeft (IsWalkTo net id.index r.transition.index) due (Err why) → IsRefusedAt net rows id i (refusal_at why id r)
  row_refused id Range h = (
    refl,
    record {
      stopped = r;
      is_row = at;
      row_is = refl;
      misfits = λ walks dues columns fits.
          (let same : due ≡ dues i = one_due r due (dues i) is (columns.due_series i r at) in
          h (walks i) (columns.walk_series i r at) (subst (LeftFits (walks i)) (sym same) fits.0));
    },
  )
  row_refused id NoRoom h = tt
