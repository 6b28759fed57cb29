-- Each input has columns of walk series and due series, and only one of each.
use Rattle.std.proofs.Common.{ℕ, ℤ, pos, zero, suc, ◌+◌, ◌<◌, ◌≤◌, ◌≡◌, List, Option, Some, None, length, sym, ap, ap₂, subst, ◌∙◌, arith, ⊎_elim, inl, inr}
use Rattle.std.specs.Prelude.{slice_get}
use Rattle.walk_times.specs.dioid.declared.algebra.Residuated.{Ghosts as ResiduatedOf}
use Rattle.walk_times.specs.dioid.declared.dates.Date.{Date}
use Rattle.walk_times.specs.dioid.Dates.{IsAtMostDate, move}
use Rattle.walk_times.proofs.dioid_proofs.DateOrder.{same_by_at_most}
use Rattle.walk_times.specs.dioid_matrix.Residuals.{meet_below, lefts}
use Rattle.walk_times.specs.series_laws.SeriesForms.{Form, form_with, value_at, repeat_start, HasValues, IsCanonical, canonical_of}
use Rattle.walk_times.proofs.series_laws_proofs.Canonical.{one_canonical, canonical_is, canonical_values}
use Rattle.walk_times.proofs.series_laws_proofs.FormValues.{value_repeats}
use Rattle.walk_times.specs.series_ops.declared.gains.Gain.{Gain}
use Rattle.walk_times.specs.series_ops.Gains.{gain_of, gain_zero}
use Rattle.teg_net.specs.Nets.{NetLists}
use Rattle.walk_times.proofs.teg_model_proofs.DateFunctions.{Dating}
use Rattle.walk_times.specs.settled_laws.SettledForms.{SettledForm, row_of, step_of_form, StandsFor}
use Rattle.walk_times.specs.WalkTimes.{WalkTimesSettle}
use Rattle.walk_times.specs.Transfers.{IsGreatestWalkTime, IsTransferOf}
use Rattle.walk_times.specs.periodic_laws.Equations.{gains}
use Rattle.endless_due.specs.declared.row.EndlessRow.{EndlessRow}
use Rattle.endless_due.specs.EndlessRows.{IsEndlessRow}
use Rattle.forever_laws.specs.SeriesColumns.{IsWalkSeries, due_date_at, IsDueSeries, gain_residuals, IsSeriesList, listed_dates}
use Rattle.forever_laws.specs.ColumnLaws.{ColumnsExist, ColumnsAreOne, RowsFitAlike, TransfersHaveOneLength}
use Rattle.forever_laws.proofs.Residuals.{GotRow, got_row}
use Rattle.forever_laws.proofs.FirstRows.{row_at}
use Rattle.forever_laws.proofs.Series.{transfers_are_series, dues_are_series}

-- ---- one of each

time_below : (net : NetLists) (input t k : ℕ) (d e : Date) → IsGreatestWalkTime net input t k d → IsGreatestWalkTime net input t k e → IsAtMostDate d e
time_below net input t k d e h m =
    ⊎_elim
    (λ none. rw none.0 tt)
    (λ one. rw one.2 (m.greatest one.0 one.1))
    h.reached

-- a firing has one greatest walk time
pub one_time : (net : NetLists) (input t k : ℕ) (d e : Date) → IsGreatestWalkTime net input t k d → IsGreatestWalkTime net input t k e → d ≡ e
one_time net input t k d e h m = same_by_at_most d e (time_below net input t k d e h m) (time_below net input t k e d m h)

same_gain : (a b : Gain) → a.series ≡ b.series → a ≡ b
same_gain a b e = ap gain_of e

-- there is one series of walk times to a transition
pub one_walk : (net : NetLists) (input t : ℕ) (a b : Gain) → IsWalkSeries net input t a.series → IsWalkSeries net input t b.series → a ≡ b
one_walk net input t a b h m =
    same_gain a b (one_canonical a.series b.series h.canonical m.canonical
    (λ k. one_time net input t (k + 1) (value_at a.series k) (value_at b.series k) (h.times k) (m.times k)))

-- and one of the due dates of a row
pub one_due : (r : EndlessRow) (a b : Gain) → IsDueSeries r a.series → IsDueSeries r b.series → a ≡ b
one_due r a b h m = same_gain a b (one_canonical a.series b.series h.canonical m.canonical (λ k. h.dates k ∙ sym (m.dates k)))

pub columns_are_one : ColumnsAreOne
columns_are_one net input rows walks dues others owed a b i l =
    let g : GotRow rows i = got_row rows i l in (
      one_walk net input g.row.transition.index (walks i) (others i) (a.walk_series i g.row g.got) (b.walk_series i g.row g.got),
      one_due g.row (dues i) (owed i) (a.due_series i g.row g.got) (b.due_series i g.row g.got),
    )

meets_alike : {M : Type 0} (l : ResiduatedOf M) (f g : ℕ → M) (n : ℕ) → ((j : ℕ) → j ≤ n → f j ≡ g j) → meet_below l f n ≡ meet_below l g n
meets_alike l f g zero h = h 0 (omega arith)
meets_alike l f g (suc zero) h = h 0 (omega arith)
meets_alike l f g (suc (suc n)) h = ap₂ l.meet (meets_alike l f g (suc n) (λ j m. h j (omega arith))) (h (suc n) (omega arith))

pub rows_fit_alike : RowsFitAlike
rows_fit_alike net input rows walks dues others owed a b i l fits =
    let one : (j : ℕ) → j < length rows → (walks j ≡ others j) × (dues j ≡ owed j) = columns_are_one net input rows walks dues others owed a b in
    let lefts_are : (j : ℕ) → j ≤ i → lefts gains gain_residuals walks dues j ≡ lefts gains gain_residuals others owed j =
    λ j m. (let both = one j (omega arith) in ap₂ gain_residuals.left both.0 both.1) in
    let meet : meet_below gain_residuals (lefts gains gain_residuals walks dues) i ≡ meet_below gain_residuals
    (lefts gains gain_residuals others owed) i =
    meets_alike gain_residuals (lefts gains gain_residuals walks dues) (lefts gains gain_residuals others owed) i lefts_are in
    let here = one i l in (
      subst (λ (w : Gain). gain_residuals.left_fits w (owed i)) here.0 (subst (λ (d : Gain). gain_residuals.left_fits (walks i) d) here.1 fits.0),
      λ some. subst (λ (m : Gain). gain_residuals.meet_fits m (gain_residuals.left (others i) (owed i))) meet
          (subst (λ (p : Gain). gain_residuals.meet_fits (meet_below gain_residuals (lefts gains gain_residuals walks dues) i) p)
          (lefts_are i (omega arith)) (fits.1 some)),
    )

pub one_length : TransfersHaveOneLength
one_length net input limit f past h =
    let x : Dating = past.0 in
    let y : Dating = h.0 in
    let same : (t k : ℕ) → t < length net.transitions → 1 ≤ k → y t k ≡ x t k = λ t k l o. one_time net input t k (y t k) (x t k) (h.1 t k l o) (past.1 t k l o) in
    past.2 f (stands_alike (length net.transitions) f y x same h.2.stands) where
      stands_alike : (count : ℕ) (f : SettledForm) (y x : Dating) → ((t k : ℕ) → t < count → 1 ≤ k → y t k ≡ x t k) → StandsFor count f y → StandsFor count f x
      stands_alike count f y x same s = record {
        sizes = s.sizes;
        dates = λ t k l o m. s.dates t k l o m ∙ same t k l o;
        repeats = record {
          at_least_one = s.repeats.at_least_one;
          again = λ t k l m. sym (same t (k + f.period) l (omega arith)) ∙ (s.repeats.again t k l m ∙ ap (move (step_of_form f t)) (same t k l (omega arith)));
        };
        still = λ t l tail. s.still t l (⊎_elim (λ n. inl (λ k a b. same t k l (omega arith) ∙ n k a b)) (λ e. inr (λ k a b. same t k l (omega arith) ∙ e k a b)) tail);
      }

-- ---- there is one

-- the canonical form of the function of a list
abbrev list_form : List Date → ℕ → ℤ → Form
list_form values period step = canonical_of (value_at (form_with values period step)) (repeat_start (form_with values period step)) period

list_is : (values : List Date) (period : ℕ) (step : ℤ) (IsValue : ℕ → Date → Type 0) → IsSeriesList values period step IsValue
    → IsCanonical (list_form values period step) × ((k : ℕ) → IsValue k (value_at (list_form values period step) k))
list_is values period step IsValue h =
    let f : Form = form_with values period step in
    let again = value_repeats f h.some h.fits in
    let is : HasValues (list_form values period step) (value_at f) = canonical_values (value_at f) (repeat_start f) period step h.rising h.some again in
    (canonical_is (value_at f) (repeat_start f) period step h.rising h.some again, λ k. subst (IsValue k) (sym (is k)) (h.each k))

walk_gain : SettledForm → Option EndlessRow → Gain
walk_gain f None = gain_zero
walk_gain f (Some r) = gain_of (list_form (row_of f r.transition.index) f.period (step_of_form f r.transition.index))

due_gain : Option EndlessRow → Gain
due_gain None = gain_zero
due_gain (Some r) = gain_of (list_form (listed_dates r) r.every (pos r.gap))

walk_series_is : (net : NetLists) (input : ℕ) (f : SettledForm) → IsTransferOf net input f → (r : EndlessRow)
    → r.transition.index < length net.transitions → IsWalkSeries net input r.transition.index (walk_gain f (Some r)).series
unfolding walk_gain
walk_series_is net input f h r l =
    let t : ℕ = r.transition.index in
    let is = list_is (row_of f t) f.period (step_of_form f t) (λ k d. IsGreatestWalkTime net input t (k + 1) d) (transfers_are_series net input f h t l) in
    record { canonical = is.0; times = is.1 }

due_series_is : (net : NetLists) (r : EndlessRow) → IsEndlessRow net r → IsDueSeries r (due_gain (Some r)).series
unfolding due_gain
due_series_is net r row =
    let is = list_is (listed_dates r) r.every (pos r.gap) (λ k d. d ≡ due_date_at r k) (dues_are_series net r row) in
    record { canonical = is.0; dates = is.1 }

pub columns : WalkTimesSettle → ColumnsExist
columns settle net ends live rows each input is_input =
    let form = settle net ends live input is_input in
    let f : SettledForm = form.0 in
    let row : (i : ℕ) (r : EndlessRow) → slice_get rows i ≡ Some r → IsEndlessRow net r = λ i r e. (let at = row_at rows i r e in rw (at.1 r) at (each.each i r at.0)) in (
      λ i. walk_gain f (slice_get rows i),
      λ i. due_gain (slice_get rows i),
      record {
        walk_series = λ i r e. subst (λ (o : Option EndlessRow). IsWalkSeries net input r.transition.index (walk_gain f o).series)
            (sym e) (walk_series_is net input f form.1 r (row i r e).in_range);
        due_series = λ i r e. subst (λ (o : Option EndlessRow). IsDueSeries r (due_gain o).series) (sym e) (due_series_is net r (row i r e));
      },
    )
