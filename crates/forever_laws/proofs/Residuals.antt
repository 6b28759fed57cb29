-- The meet over the rows of the residuals of due series by walk series has the latest dates.
use Rattle.std.proofs.Common.{ℕ, zero, suc, ◌+◌, ◌-◌, ◌<◌, ◌≤◌, ◌≡◌, List, [], ◌∷◌, Some, length, get_or, refl, sym, ap, subst, ◌∙◌, arith, ⊎_elim, ◌⊎◌, inl, inr}
use Rattle.std.specs.Prelude.{pos, slice_get}
use Rattle.std.proofs.lemmas.Bool.{cases_lt}
use Rattle.std.proofs.lemmas.Int.{ints}
use Rattle.walk_times.specs.dioid.declared.dates.Date.{Date}
use Rattle.walk_times.specs.dioid.declared.dates.Date.TheVariants.{Early, At, Never}
use Rattle.walk_times.specs.dioid.Dates.{IsAtMostDate, delayed, date_product, date_left, earlier_of}
use Rattle.walk_times.specs.dioid.DateOrder.{Le}
use Rattle.walk_times.proofs.dioid_proofs.DateOrder.{at_most_is, at_most_trans, earlier_either, delayed_rises, delayed_is_product}
use Rattle.walk_times.proofs.dioid_proofs.AtMost.{le_refl, le_is, le_trans, le_never, product_le, earlier_le_left, earlier_le_right}
use Rattle.walk_times.specs.series_laws.Residual.{IsLeftAt, least_of_first}
use Rattle.walk_times.specs.series_laws.SeriesForms.{Form, value_at, IsForm, IsCanonical}
use Rattle.walk_times.specs.series_laws.declared.plans.Slopes.{Slopes}
use Rattle.walk_times.specs.series_laws.declared.plans.Slopes.TheVariants.{Equal, First, Second}
use Rattle.walk_times.specs.series_laws.Needs.{tail_of, slopes_of, form_least}
use Rattle.walk_times.specs.series_laws.ProductNeeds.{offsets_of, left_by_slopes, left_by, residual_at, form_left}
use Rattle.walk_times.proofs.series_laws_proofs.Items.{times_commutes}
use Rattle.walk_times.proofs.series_laws_proofs.Lefts.{left_is, form_left_is, form_left_values}
use Rattle.walk_times.proofs.series_laws_proofs.StarParts.{from_left}
use Rattle.walk_times.proofs.series_laws_proofs.Sums.{form_least_is, form_least_values}
use Rattle.walk_times.specs.series_ops.declared.gains.Gain.{Gain}
use Rattle.teg_net.specs.declared.walks.Step.{Step}
use Rattle.teg_net.specs.Nets.{NetLists, HasEndsInRange}
use Rattle.teg_net.specs.Walks.{Walks, walk_time}
use Rattle.walk_times.specs.teg_model.Datings.{as_date}
use Rattle.walk_times.proofs.teg_model_proofs.Tokens.{not_before_zero}
use Rattle.walk_times.proofs.teg_model_proofs.WalkSteps.{walk_below}
use Rattle.walk_times.proofs.teg_model_proofs.DateFunctions.{Dating}
use Rattle.walk_times.specs.Transfers.{IsGreatestWalkTime}
use Rattle.due_laws.specs.MeetingDueDates.{InputsMeet, inputs_at_zero}
use Rattle.due_laws.specs.LatestDates.{IsDateToDue, IsLatestDate}
use Rattle.due_laws.proofs.LatestDates.{delayed_back, feasible_keeps, free_without_walks, walk_ends_in}
use Rattle.endless_due.specs.declared.row.EndlessRow.{EndlessRow}
use Rattle.endless_due.specs.EndlessRows.{row_due, due_on, IsEndlessOf}
use Rattle.forever_laws.specs.SeriesColumns.{IsWalkSeries, IsDueSeries, AreSeriesColumns, residual_over}
use Rattle.forever_laws.specs.EndlessDues.{ResidualsAreLatestDates, ResidualsAreFreeOrNumbers}
use Rattle.forever_laws.proofs.GoingOn.{due_number, due_is}
use Rattle.forever_laws.proofs.Meeting.{HasRow, has_row, due_of_row, free_at_each, walk_later, walk_back}
use Rattle.forever_laws.proofs.Inputs.{latest_from_zero}
use Rattle.forever_laws.proofs.Series.{due_date_is}

-- ---- a residual is one of the residuals of values, unless it is Never or Early

least_attained : (f : ℕ → Date) (n : ℕ) → (i : ℕ) × (least_of_first f n ≡ f i)
least_attained f zero = (0, refl)
least_attained f (suc n) = ⊎_elim
    (λ (e : least_of_first f (suc n) ≡ least_of_first f n). let old = least_attained f n in (old.0, e ∙ old.1))
    (λ (e : least_of_first f (suc n) ≡ f (suc n)). (suc n, e))
    (earlier_either (least_of_first f n) (f (suc n)))

-- the date is one of the residuals at k
abbrev IsOneLeft : Form → Form → ℕ → Date → Type 0
IsOneLeft f g k d = (i : ℕ) × (d ≡ date_left (value_at f i) (value_at g (k + i)))

by_slopes : (f g : Form) (k : ℕ) (s : Slopes) → (left_by_slopes s f g k ≡ Early) ⊎ IsOneLeft f g k (left_by_slopes s f g k)
by_slopes f g k Equal = inr (least_attained (λ i. date_left (value_at f i) (value_at g (k + i))) (offsets_of f g - 1))
by_slopes f g k First = inl refl
by_slopes f g k Second = inr (least_attained (λ i. date_left (value_at f i) (value_at g (k + i))) (offsets_of f g - 1))

by_tail : (f g : Form) (k : ℕ) (d : Date) → (left_by d f g k ≡ Never) ⊎ ((left_by d f g k ≡ Early) ⊎ IsOneLeft f g k (left_by d f g k))
by_tail f g k Early = inl refl
by_tail f g k (At s) = inr (by_slopes f g k (slopes_of f g))
by_tail f g k Never = inr (by_slopes f g k (slopes_of f g))

left_attained : (f g : Form) (k : ℕ) → (residual_at f g k ≡ Never) ⊎ ((residual_at f g k ≡ Early) ⊎ IsOneLeft f g k (residual_at f g k))
left_attained f g k = by_tail f g k (tail_of f)

-- ---- the meet over the rows

pub record IsMeet (n k : ℕ) (walks dues : ℕ → Gain) (g : Gain) : Type 0 where
  pub canonical : IsCanonical g.series
  pub below : (i : ℕ) → i < n → Le (value_at g.series k) (residual_at (walks i).series (dues i).series k)
  pub index : ℕ
  pub within : index < n
  pub is : value_at g.series k ≡ residual_at (walks index).series (dues index).series k

first_meet : (k : ℕ) (walks dues : ℕ → Gain) → IsForm (walks 0).series → IsForm (dues 0).series → IsMeet 1 k walks dues (residual_over 1 walks dues)
first_meet k walks dues w d =
    let is : value_at (form_left (walks 0).series (dues 0).series) k ≡ residual_at (walks 0).series (dues 0).series k = form_left_values (walks 0).series (dues 0).series w d k in
    record {
      canonical = form_left_is (walks 0).series (dues 0).series w d;
      below = λ i l. (let e : 0 ≡ i = omega arith in subst (λ (j : ℕ). Le (value_at (form_left (walks 0).series (dues 0).series) k) (residual_at (walks j).series (dues j).series k)) e (le_is is));
      index = 0;
      within = omega arith;
      is = is;
    }

pub meets : (k : ℕ) (walks dues : ℕ → Gain) (n : ℕ) → ((i : ℕ) → i < suc n → IsForm (walks i).series × IsForm (dues i).series) → IsMeet (suc n) k walks dues (residual_over (suc n) walks dues)
meets k walks dues zero h = let one = h 0 (omega arith) in first_meet k walks dues one.0 one.1
meets k walks dues (suc n) h =
    let old : IsMeet (suc n) k walks dues (residual_over (suc n) walks dues) = meets k walks dues n (λ i l. h i (omega arith)) in
    let own = h (suc n) (omega arith) in
    let f : Form = (residual_over (suc n) walks dues).series in
    let g : Form = form_left (walks (suc n)).series (dues (suc n)).series in
    let isf : IsForm f = old.canonical.form in
    let isg : IsForm g = (form_left_is (walks (suc n)).series (dues (suc n)).series own.0 own.1).form in
    let left : value_at g k ≡ residual_at (walks (suc n)).series (dues (suc n)).series k = form_left_values (walks (suc n)).series (dues (suc n)).series own.0 own.1 k in
    let is : value_at (form_least f g) k ≡ earlier_of (value_at f k) (value_at g k) = form_least_values f g isf isg k in
    let low : Le (value_at (form_least f g) k) (value_at f k) = le_trans (le_is is) (earlier_le_left (value_at f k) (value_at g k)) in
    let last : Le (value_at (form_least f g) k) (residual_at (walks (suc n)).series (dues (suc n)).series k) =
    le_trans (le_is is) (le_trans (earlier_le_right (value_at f k) (value_at g k)) (le_is left)) in
    let within = old.within in
    let below : (i : ℕ) → i < suc (suc n) → Le (value_at (form_least f g) k) (residual_at (walks i).series (dues i).series k) =
    λ i l. ⊎_elim
    (λ (less : i < suc n). le_trans low (old.below i less))
    (λ (more : suc n ≤ i). let e : suc n ≡ i = omega arith in subst (λ (j : ℕ). Le (value_at (form_least f g) k) (residual_at (walks j).series (dues j).series k)) e last)
    (cases_lt i (suc n)) in
    ⊎_elim
    (λ (e : earlier_of (value_at f k) (value_at g k) ≡ value_at f k).
    record { canonical = form_least_is f g isf isg; below = below; index = old.index; within = omega arith; is = is ∙ (e ∙ old.is) })
    (λ (e : earlier_of (value_at f k) (value_at g k) ≡ value_at g k).
    record { canonical = form_least_is f g isf isg; below = below; index = suc n; within = omega arith; is = is ∙ (e ∙ left) })
    (earlier_either (value_at f k) (value_at g k))

-- ---- the rows

pub record GotRow (rows : List EndlessRow) (i : ℕ) : Type 0 where
  pub row : EndlessRow
  pub got : slice_get rows i ≡ Some row
  pub is : (o : EndlessRow) → get_or rows i o ≡ row

pub got_row : (rows : List EndlessRow) (i : ℕ) → i < length rows → GotRow rows i
got_row [] i l = absurd (omega arith)
got_row (r ∷ rows) zero l = record { row = r; got = refl; is = λ o. refl }
got_row (r ∷ rows) (suc i) l = let old : GotRow rows i = got_row rows i (omega arith) in record { row = old.row; got = old.got; is = old.is }

due_at_row : (net : NetLists) (rows : List EndlessRow) → IsEndlessOf net rows → (i : ℕ) → i < length rows → (g : GotRow rows i)
    → (k : ℕ) → due_on rows g.row.transition.index k ≡ Some (due_number g.row k)
due_at_row net rows ok i l g k = subst (λ (r : EndlessRow). due_on rows r.transition.index k ≡ row_due r k) (g.is g.row) (due_of_row net rows ok i k g.row l) ∙ due_is g.row k

-- a walk of this time to a firing that is due then, from a date that is at most the residual
left_below : (v h d : Date) (time due : ℕ) → Le v (date_left h (At (pos due))) → IsAtMostDate (At (pos time)) h → delayed time d ≡ At (pos due) → IsAtMostDate v d
left_below v h d time due l m e =
    let one : Le (date_product h v) (At (pos due)) = from_left h l in
    let two : Le (date_product (At (pos time)) v) (At (pos due)) = le_trans (product_le {a = At (pos time)} {b = h} {c = v} {d = v} (record { holds = m }) (le_refl v)) one in
    let three : delayed time v ≡ date_product (At (pos time)) v = delayed_is_product time v ∙ times_commutes v (At (pos time)) in
    delayed_back time v d (at_most_trans (delayed time v) (At (pos due)) (delayed time d)
    (subst (λ z. IsAtMostDate z (At (pos due))) (sym three) two.holds) (at_most_is (At (pos due)) (delayed time d) (sym e)))

left_of_numbers : (time due : ℕ) → delayed time (date_left (At (pos time)) (At (pos due))) ≡ At (pos due)
left_of_numbers time due = ap At (omega (arith, ints))

left_from_zero : (time due : ℕ) → time ≤ due → IsAtMostDate (At (pos 0)) (date_left (At (pos time)) (At (pos due)))
left_from_zero time due l = omega (arith, ints)

module _ (net : NetLists) (ends : HasEndsInRange net) (rows : List EndlessRow) (each : IsEndlessOf net rows) (zeros : InputsMeet net (due_on rows) inputs_at_zero) (t : ℕ) (in' : t < length net.transitions)
    (walks dues : ℕ → Gain) (columns : AreSeriesColumns net t rows walks dues) (k : ℕ) where
  -- the residual at an offset: never, or a date to a due firing, from 0 on
  one_left : (i j : ℕ) → i < length rows → (let d : Date =
      date_left (value_at (walks i).series j) (value_at (dues i).series (k + j)) in (d ≡ Never)
      ⊎ (IsAtMostDate (At (pos 0)) d × IsDateToDue net (due_on rows) t (k + 1) d))
  one_left i j l =
      let g : GotRow rows i = got_row rows i l in
      let h : Date = value_at (walks i).series j in
      let time : IsGreatestWalkTime net t g.row.transition.index (j + 1) h = (columns.walk_series i g.row g.got).times j in
      let due : ℕ = due_number g.row (k + j + 1) in
      let dated : value_at (dues i).series (k + j) ≡ At (pos due) = (columns.due_series i g.row g.got).dates (k + j) ∙ due_date_is g.row (k + j) in
      ⊎_elim
      (λ none. inl (ap (λ z. date_left z (value_at (dues i).series (k + j))) none.0))
      (λ one.
      let steps : List Step = one.0 in
      let n : ℕ = walk_time net steps in
      let e : 1 + k ≡ k + 1 = omega arith in
      let f : j + 1 + k ≡ k + j + 1 = omega arith in
      let walk : Walks net t (k + 1) steps g.row.transition.index (k + j + 1) =
      subst (λ (z : ℕ). Walks net t z steps g.row.transition.index (k + j + 1)) e
      (subst (λ (z : ℕ). Walks net t (1 + k) steps g.row.transition.index z) f (walk_later net steps t 1 g.row.transition.index (j + 1) k one.1)) in
      let is_due : due_on rows g.row.transition.index (k + j + 1) ≡ Some due = due_at_row net rows each i l g (k + j + 1) in
      let x : Dating = zeros.0 in
      let feasible = zeros.1.feasible in
      let end = walk_ends_in net ends steps t (k + 1) g.row.transition.index (k + j + 1) in' (omega arith) walk in
      let first : IsAtMostDate (At (pos 0)) (x t (k + 1)) = not_before_zero net inputs_at_zero x feasible t (k + 1) in' (omega arith) in
      let along : IsAtMostDate (delayed n (x t (k + 1))) (x g.row.transition.index (k + j + 1)) =
      walk_below net x ends (feasible_keeps net inputs_at_zero x feasible) steps t (k + 1) g.row.transition.index
      (k + j + 1) in' (omega arith) walk in
      let kept : IsAtMostDate (x g.row.transition.index (k + j + 1)) (At (pos due)) = zeros.2 g.row.transition.index (k + j + 1) due end.0 end.1 is_due in
      let late : IsAtMostDate (delayed n (At (pos 0))) (At (pos due)) =
      at_most_trans (delayed n (At (pos 0))) (delayed n (x t (k + 1))) (At (pos due)) (delayed_rises n (At (pos 0)) (x t (k + 1)) first)
      (at_most_trans (delayed n (x t (k + 1))) (x g.row.transition.index (k + j + 1)) (At (pos due)) along kept) in
      let low : n ≤ due = omega (arith, ints, late) in
      let same : date_left h (value_at (dues i).series (k + j)) ≡ date_left (At (pos n)) (At (pos due)) =
      ap (λ z. date_left z (value_at (dues i).series (k + j))) one.2 ∙ ap (date_left (At (pos n))) dated in
      inr (
        subst (IsAtMostDate (At (pos 0))) (sym same) (left_from_zero n due low),
        subst (IsDateToDue net (due_on rows) t (k + 1)) (sym same)
            (record { to = g.row.transition.index; number = k + j + 1; due_date = due; steps = steps; walk = walk; is_due = is_due; is = left_of_numbers n due }),
      ))
      time.reached

  -- a residual is from 0 on
  pub left_late : (i : ℕ) → i < length rows → IsAtMostDate (At (pos 0)) (residual_at (walks i).series (dues i).series k)
  left_late i l =
      let g : GotRow rows i = got_row rows i l in
      let f : Form = (walks i).series in
      let d : Form = (dues i).series in
      let is : IsLeftAt (value_at f) (value_at d) k (residual_at f d k) = left_is f d (columns.walk_series i g.row g.got).canonical.form (columns.due_series i g.row g.got).canonical.form k in
      let zero_le : (j : ℕ) → Le (At (pos 0)) (date_left (value_at f j) (value_at d (k + j))) =
      λ j. ⊎_elim (λ e. le_trans (le_never (At (pos 0))) (le_is (sym e))) (λ two. record { holds = two.0 }) (one_left i j l) in
      (is.greatest (At (pos 0)) zero_le).holds

  -- each date to a due firing is at least the residual of some row
  due_above : (d : Date) → IsDateToDue net (due_on rows) t (k + 1) d → (v : Date) → ((i : ℕ) → i < length rows → Le v (residual_at (walks i).series (dues i).series k)) → IsAtMostDate v d
  due_above d w v below =
      let h : HasRow rows w.to w.number w.due_date = has_row rows w.to w.number w.due_date w.is_due in
      let f : Form = (walks h.index).series in
      let g : Form = (dues h.index).series in
      let walk_series : IsWalkSeries net t h.row.transition.index f = columns.walk_series h.index h.row h.got in
      let due_series : IsDueSeries h.row g = columns.due_series h.index h.row h.got in
      let e : k + 1 ≡ 1 + k = omega arith in
      let back = walk_back net w.steps t 1 w.to w.number k (subst (λ (z : ℕ). Walks net t z w.steps w.to w.number) e w.walk) in
      let some = back.2 in
      let far = back.1 in
      let j : ℕ = back.0 - 1 in
      let one : j + 1 ≡ back.0 = omega arith in
      let number : k + j + 1 ≡ w.number = omega arith in
      let walk : Walks net t 1 w.steps h.row.transition.index (j + 1) = subst (λ (z : ℕ). Walks net t 1 w.steps z (j + 1)) (sym h.names) (subst (Walks net t 1 w.steps w.to) (sym one) back.3) in
      let time : IsAtMostDate (At (pos (walk_time net w.steps))) (value_at f j) = (walk_series.times j).greatest w.steps walk in
      let dated : value_at g (k + j) ≡ At (pos w.due_date) = due_series.dates (k + j) ∙ (ap (λ (n : ℕ). as_date (row_due h.row n)) number ∙ ap as_date h.due) in
      let is : IsLeftAt (value_at f) (value_at g) k (residual_at f g k) = left_is f g walk_series.canonical.form due_series.canonical.form k in
      let low : Le v (date_left (value_at f j) (At (pos w.due_date))) = le_trans (below h.index h.within) (le_trans (is.below j) (le_is (ap (date_left (value_at f j)) dated))) in
      left_below v (value_at f j) d (walk_time net w.steps) w.due_date low time w.is

  pub latest_is : 1 ≤ length rows → IsLatestDate net (due_on rows) t (k + 1) (value_at (residual_over (length rows) walks dues).series k)
  latest_is some =
      let n : ℕ = length rows - 1 in
      let count : suc n ≡ length rows = omega arith in
      let m : IsMeet (length rows) k walks dues (residual_over (length rows) walks dues) =
      subst (λ (c : ℕ). IsMeet c k walks dues (residual_over c walks dues)) count
      (meets k walks dues n (λ i l. (let g : GotRow rows i =
      got_row rows i (omega arith) in ((columns.walk_series i g.row g.got).canonical.form, (columns.due_series i g.row g.got).canonical.form)))) in
      let v : Date = value_at (residual_over (length rows) walks dues).series k in
      let f : Form = (walks m.index).series in
      let g : Form = (dues m.index).series in
      record {
        attained = λ ne. ⊎_elim
            (λ (never : residual_at f g k ≡ Never). absurd (ne (m.is ∙ never)))
            (λ other. ⊎_elim
            (λ (early : residual_at f g k ≡ Early). absurd (rw early at (left_late m.index m.within)))
            (λ (one : IsOneLeft f g k (residual_at f g k)).
            ⊎_elim
            (λ e. absurd (ne (m.is ∙ (one.1 ∙ e))))
            (λ two. subst (IsDateToDue net (due_on rows) t (k + 1)) (sym (m.is ∙ one.1)) two.1)
            (one_left m.index one.0 m.within))
            other)
            (left_attained f g k);
        least = λ d w. due_above d w v m.below;
      }

pub residuals_are_latest : ResidualsAreLatestDates
residuals_are_latest net ends live rows each some zeros t in' walks dues columns k = latest_is net ends rows each zeros t in' walks dues columns k some

pub free_or_numbers : ResidualsAreFreeOrNumbers
free_or_numbers net ends live rows each some zeros t in' walks dues columns =
    let s : ℕ → Date = value_at (residual_over (length rows) walks dues).series in
    let latest : (k : ℕ) → IsLatestDate net (due_on rows) t (k + 1) (s k) = λ k. latest_is net ends rows each zeros t in' walks dues columns k some in
    let never_by : (j k : ℕ) → s j ≡ Never → s k ≡ Never =
    λ j k e. (free_without_walks net (due_on rows) t (k + 1) (s k) (latest k)).1
    (free_at_each net rows each t (j + 1) (k + 1) (omega arith) (omega arith) ((free_without_walks net (due_on rows) t (j + 1) (s j) (latest j)).0 e)) in (
      λ e. (λ k. never_by 0 k e, λ k one. free_at_each net rows each t (0 + 1) k (omega arith) one ((free_without_walks net (due_on rows) t (0 + 1) (s 0) (latest 0)).0 e)),
      λ ne k. latest_from_zero net ends (due_on rows) zeros t (k + 1) (s k) in' (omega arith) (latest k) (λ e. ne (never_by k 0 e)),
    )
