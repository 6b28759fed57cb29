-- Where all walk times from an input are those from another one, moved, each row that fits for that one fits for it, too: residuals and
-- their meets repeat from where they did, and the numbers of all of them are small.
use Rattle.std.proofs.Common.{ℕ, ℤ, pos, zero, suc, ◌+◌, ◌-◌, ◌<◌, ◌≤◌, ◌≡◌, ◌-ℤ◌, List, length, refl, sym, ap, subst, ◌∙◌, arith, ⊎_elim}
use Rattle.std.proofs.lemmas.Int.{ints}
use Rattle.walk_times.specs.dioid.declared.dates.Date.{Date}
use Rattle.walk_times.specs.dioid.declared.dates.Date.TheVariants.{Early, At, Never}
use Rattle.walk_times.specs.dioid.Dates.{IsAtMostDate, date_left}
use Rattle.walk_times.specs.dioid.DateOrder.{Le}
use Rattle.walk_times.proofs.dioid_proofs.AtMost.{le_is, le_trans}
use Rattle.walk_times.specs.dioid_matrix.Residuals.{RowFits, lefts, meet_below}
use Rattle.walk_times.specs.series_laws.Needs.{form_least, least_plan, need_of}
use Rattle.walk_times.specs.series_laws.ProductNeeds.{form_left, left_by, left_plan, residual_at}
use Rattle.walk_times.specs.series_laws.Residual.{IsLeftAt}
use Rattle.walk_times.specs.series_laws.SeriesForms.{Form, size_of, repeat_start, value_at, IsForm}
use Rattle.walk_times.proofs.series_laws_proofs.Closed.{closed}
use Rattle.walk_times.proofs.series_laws_proofs.Lefts.{left_is, form_left_is, form_left_values}
use Rattle.walk_times.proofs.series_laws_proofs.Sums.{form_least_is}
use Rattle.walk_times.specs.series_form.NumberBounds.{HasSmallNumbers}
use Rattle.walk_times.specs.series_form.SeriesAnswers.{Fits}
use Rattle.walk_times.specs.series_form.SeriesLimits.{greatest_value}
use Rattle.walk_times.specs.series_ops.declared.gains.Gain.{Gain}
use Rattle.walk_times.specs.series_ops.Gains.{LeftFits, MeetFits, gain_of}
use Rattle.walk_times.specs.periodic_laws.Equations.{gains}
use Rattle.walk_times.specs.teg_model.DateBounds.{IsDateWithin}
use Rattle.teg_net.specs.Nets.{NetLists, IsNet}
use Rattle.teg_net.proofs.NetRules.{net_ends}
use Rattle.teg_net.specs.Walks.{walk_time}
use Rattle.due_laws.specs.MeetingDueDates.{InputsMeet, inputs_at_zero}
use Rattle.endless_due.specs.declared.row.EndlessRow.{EndlessRow}
use Rattle.endless_due.specs.EndlessRows.{IsEndlessOf, IsEndlessRow, due_on}
use Rattle.forever_laws.specs.SeriesColumns.{AreSeriesColumns, IsDueSeries, IsWalkSeries, gain_residuals, residual_over}
use Rattle.forever_laws.proofs.Fitting.{due_low, small_numbers}
use Rattle.forever_laws.proofs.GoingOn.{due_number}
use Rattle.forever_laws.proofs.MovedForms.{moved_form, moved_is_form, moved_least, moved_least_plan, moved_left, moved_left_plan}
use Rattle.forever_laws.proofs.Residuals.{GotRow, IsMeet, got_row, left_late, meets}
use Rattle.forever_laws.proofs.Series.{due_date_is}

number_within : (r : Date) (due n : ℕ) → IsAtMostDate (At (pos 0)) r → IsAtMostDate r (At (pos due -ℤ pos n)) → due ≤ greatest_value → IsDateWithin greatest_value r
number_within Early due n a b l = tt
number_within (At z) due n a b l = (a, omega (arith, ints, b, l))
number_within Never due n a b l = tt

-- ---- the numbers of residuals and of their meets

module _ (net : NetLists) (ok : IsNet net) (rows : List EndlessRow) (each : IsEndlessOf net rows) (zeros : InputsMeet net (due_on rows) inputs_at_zero) (t : ℕ) (in' : t < length net.transitions)
    (walks dues : ℕ → Gain) (columns : AreSeriesColumns net t rows walks dues) (short : (i : ℕ) → i < length rows → size_of (walks i).series ≤ 20000) where
  forms : (i : ℕ) → i < length rows → IsForm (walks i).series × IsForm (dues i).series
  forms i l =
      let g : GotRow rows i = got_row rows i l in
      ((columns.walk_series i g.row g.got).canonical.form, (columns.due_series i g.row g.got).canonical.form)

  -- a residual is at most the due date less the time of a walk that arrives
  left_within : (i : ℕ) → i < length rows → (k : ℕ) → k ≤ 20000 → IsDateWithin greatest_value (residual_at (walks i).series (dues i).series k)
  left_within i l k few =
      let g : GotRow rows i = got_row rows i l in
      let f : Form = (walks i).series in
      let d : Form = (dues i).series in
      let walk : IsWalkSeries net t g.row.transition.index f = columns.walk_series i g.row g.got in
      let due : IsDueSeries g.row d = columns.due_series i g.row g.got in
      let isf : IsForm f = walk.canonical.form in
      let j : ℕ = repeat_start f in
      let size : size_of f ≤ 20000 = short i l in
      let number : ℕ = due_number g.row (k + j + 1) in
      let row : IsEndlessRow net g.row = subst (IsEndlessRow net) (g.is g.row) (each.each i g.row l) in
      let low : number ≤ greatest_value = due_low net g.row row (k + j + 1) (omega (arith, few, size)) in
      let dated : value_at d (k + j) ≡ At (pos number) = due.dates (k + j) ∙ due_date_is g.row (k + j) in
      let is : IsLeftAt (value_at f) (value_at d) k (residual_at f d k) = left_is f d isf due.canonical.form k in
      let late : IsAtMostDate (At (pos 0)) (residual_at f d k) = left_late net (net_ends net ok) rows each zeros t in' walks dues columns k i l in
      ⊎_elim
      (λ none. subst (λ (a : Date). IsDateWithin greatest_value (left_by a f d k)) (sym none.0) tt)
      (λ one.
      let n : ℕ = walk_time net one.0 in
      let same : date_left (value_at f j) (value_at d (k + j)) ≡ At (pos number -ℤ pos n) = ap (λ z. date_left z (value_at d (k + j))) one.2 ∙ ap (date_left (At (pos n))) dated in
      let top : Le (residual_at f d k) (At (pos number -ℤ pos n)) = le_trans (is.below j) (le_is same) in
      number_within (residual_at f d k) number n late top.holds low)
      (walk.times j).reached

  left_small : (i : ℕ) → i < length rows → need_of (left_plan (walks i).series (dues i).series) ≤ 20000 → HasSmallNumbers (form_left (walks i).series (dues i).series)
  left_small i l need =
      let own = forms i l in
      let f : Form = (walks i).series in
      let d : Form = (dues i).series in
      let size : size_of (form_left f d) ≤ need_of (left_plan f d) = closed.left_short f d own.0 own.1 in
      small_numbers (form_left f d) (form_left_is f d own.0 own.1)
      (λ k m. subst (IsDateWithin greatest_value) (sym (form_left_values f d own.0 own.1 k)) (left_within i l k (omega (arith, need, size, m))))

  meet_within : (n : ℕ) → n < length rows → (k : ℕ) → k ≤ 20000 → IsDateWithin greatest_value (value_at (residual_over (suc n) walks dues).series k)
  meet_within n l k few =
      let m : IsMeet (suc n) k walks dues (residual_over (suc n) walks dues) = meets k walks dues n (λ i w. forms i (omega (arith, w, l))) in
      let w : m.index < suc n = m.within in
      subst (IsDateWithin greatest_value) (sym m.is) (left_within m.index (omega (arith, w, l)) k few)

  meet_is_form : (n : ℕ) → n < length rows → IsForm (residual_over (suc n) walks dues).series
  meet_is_form n l = (meets 0 walks dues n (λ i w. forms i (omega (arith, w, l)))).canonical.form

  meet_small : (n : ℕ) → suc n < length rows
      → need_of (least_plan (residual_over (suc n) walks dues).series (form_left (walks (suc n)).series (dues (suc n)).series)) ≤ 20000
      → HasSmallNumbers (form_least (residual_over (suc n) walks dues).series (form_left (walks (suc n)).series (dues (suc n)).series))
  meet_small n l need =
      let own = forms (suc n) l in
      let m : Form = (residual_over (suc n) walks dues).series in
      let r : Form = form_left (walks (suc n)).series (dues (suc n)).series in
      let ism : IsForm m = meet_is_form n (omega (arith, l)) in
      let isr : IsForm r = (form_left_is (walks (suc n)).series (dues (suc n)).series own.0 own.1).form in
      let size : size_of (form_least m r) ≤ need_of (least_plan m r) = (closed.least m r ism isr).short in
      small_numbers (form_least m r) (form_least_is m r ism isr) (λ k w. meet_within (suc n) l k (omega (arith, need, size, w)))

-- ---- the same rows for another input

-- the walks, all moved
abbrev pub moved_walks : ℤ → (ℕ → Gain) → ℕ → Gain
moved_walks x walks i = gain_of (moved_form x (walks i).series)

moved_over : (x : ℤ) (walks dues : ℕ → Gain) (n : ℕ) → ((i : ℕ) → i < suc n → IsForm (walks i).series × IsForm (dues i).series)
    → ((j : ℕ) → j < suc n → IsForm (residual_over (suc j) walks dues).series)
    → (residual_over (suc n) (moved_walks x walks) dues).series ≡ moved_form (pos 0 -ℤ x) (residual_over (suc n) walks dues).series
moved_over x walks dues zero h m = let own = h 0 (omega arith) in moved_left x (walks 0).series (dues 0).series own.0 own.1
moved_over x walks dues (suc n) h m =
    let own = h (suc n) (omega arith) in
    let f : Form = (residual_over (suc n) walks dues).series in
    let r : Form = form_left (walks (suc n)).series (dues (suc n)).series in
    let old : (residual_over (suc n) (moved_walks x walks) dues).series ≡ moved_form (pos 0 -ℤ x) f = moved_over x walks dues n (λ i l. h i (omega (arith, l))) (λ j l. m j (omega (arith, l))) in
    let last : form_left (moved_form x (walks (suc n)).series) (dues (suc n)).series ≡ moved_form (pos 0 -ℤ x) r = moved_left x (walks (suc n)).series (dues (suc n)).series own.0 own.1 in
    ap (λ (z : Form). form_least z (form_left (moved_form x (walks (suc n)).series) (dues (suc n)).series)) old
    ∙ (ap (form_least (moved_form (pos 0 -ℤ x) f)) last
    ∙ moved_least (pos 0 -ℤ x) f r (m n (omega arith)) (form_left_is (walks (suc n)).series (dues (suc n)).series own.0 own.1).form)

module _ (net : NetLists) (ok : IsNet net) (rows : List EndlessRow) (each : IsEndlessOf net rows) (zeros : InputsMeet net (due_on rows) inputs_at_zero) (t : ℕ) (in' : t < length net.transitions)
    (x : ℤ) (walks dues : ℕ → Gain) (u : ℕ) (in_u : u < length net.transitions) (from_u : AreSeriesColumns net u rows walks dues) (columns : AreSeriesColumns net t rows (moved_walks x walks) dues)
    (short : (i : ℕ) → i < length rows → size_of (moved_form x (walks i).series) ≤ 20000) where
  own_forms : (i : ℕ) → i < length rows → IsForm (walks i).series × IsForm (dues i).series
  own_forms i l =
      let g : GotRow rows i = got_row rows i l in
      ((from_u.walk_series i g.row g.got).canonical.form, (from_u.due_series i g.row g.got).canonical.form)

  own_meets : (n : ℕ) → n < length rows → IsForm (residual_over (suc n) walks dues).series
  own_meets n l = (meets 0 walks dues n (λ i w. own_forms i (omega (arith, w, l)))).canonical.form

  moved_left_fits : (i : ℕ) → i < length rows → LeftFits (walks i) (dues i) → LeftFits (moved_walks x walks i) (dues i)
  moved_left_fits i l h =
      let need : need_of (left_plan (moved_form x (walks i).series) (dues i).series) ≤ 20000 =
      subst (λ p. need_of p ≤ 20000) (sym (moved_left_plan x (walks i).series (dues i).series)) h.short in
      record { short = need; small = left_small net ok rows each zeros t in' (moved_walks x walks) dues columns short i l need }

  moved_meet_fits : (n : ℕ) → suc n < length rows → MeetFits (residual_over (suc n) walks dues) (gain_residuals.left (walks (suc n)) (dues (suc n)))
      → MeetFits (residual_over (suc n) (moved_walks x walks) dues) (gain_residuals.left (moved_walks x walks (suc n)) (dues (suc n)))
  moved_meet_fits n l h =
      let own = own_forms (suc n) l in
      let f : Form = (residual_over (suc n) walks dues).series in
      let r : Form = form_left (walks (suc n)).series (dues (suc n)).series in
      let meet : (residual_over (suc n) (moved_walks x walks) dues).series ≡ moved_form (pos 0 -ℤ x) f =
      moved_over x walks dues n (λ i w. own_forms i (omega (arith, w, l))) (λ j w. own_meets j (omega (arith, w, l))) in
      let last : form_left (moved_form x (walks (suc n)).series) (dues (suc n)).series ≡ moved_form (pos 0 -ℤ x) r = moved_left x (walks (suc n)).series (dues (suc n)).series own.0 own.1 in
      let same : least_plan (residual_over (suc n) (moved_walks x walks) dues).series (form_left (moved_form x (walks (suc n)).series) (dues (suc n)).series) ≡ least_plan f r =
      ap (λ (z : Form). least_plan z (form_left (moved_form x (walks (suc n)).series) (dues (suc n)).series)) meet
      ∙ (ap (least_plan (moved_form (pos 0 -ℤ x) f)) last ∙ moved_least_plan (pos 0 -ℤ x) f r) in
      let need = subst (λ p. need_of p ≤ 20000) (sym same) h.short in
      record { short = need; small = meet_small net ok rows each zeros t in' (moved_walks x walks) dues columns short n l need }

  -- a row that fits for the other input fits for this one
  pub moved_row_fits : (i : ℕ) → i < length rows → RowFits gains gain_residuals walks dues i → RowFits gains gain_residuals (moved_walks x walks) dues i
  moved_row_fits zero l h = (moved_left_fits zero l h.0, λ some. absurd (omega arith))
  moved_row_fits (suc n) l h = (moved_left_fits (suc n) l h.0, λ some. moved_meet_fits n l (h.1 some))
