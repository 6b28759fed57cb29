-- The function of a row of a settled form is the one of the dates that the form tells.
use Rattle.std.proofs.Common.{ℕ, ℤ, pos, ◌+◌, ◌-◌, ◌*◌, ◌/◌, ◌%◌, ◌<◌, ◌≤◌, ◌≡◌, List, [], true, false, leb, length, get_or, refl, sym, ap, subst, ◌∙◌, arith, ⊎_elim}
use Rattle.std.proofs.lemmas.Bool.{cases_lt}
use Rattle.std.proofs.lemmas.Bool.Decides.{nat_tests}
use Rattle.std.proofs.lemmas.Nat.{mod_below, div-add-mod'}
use Rattle.std.specs.Prelude.{◌*ℤ◌, Result}
use Rattle.series_ops.specs.dioid.declared.dates.Date.{Date}
use Rattle.series_ops.specs.dioid.declared.dates.Date.TheVariants.{Early}
use Rattle.series_ops.specs.dioid.Dates.{move}
use Rattle.series_ops.specs.series_laws.Periodic.{Rising, times}
use Rattle.series_ops.specs.series_laws.SeriesForms.{Form, HasValues, form_with, value_at}
use Rattle.series_form.specs.SeriesAnswers.{AnswersOf}
use Rattle.series_form.specs.declared.forms.SeriesRefused.{SeriesRefused}
use Rattle.series_ops.proofs.series_laws_proofs.FormValues.{value_in, value_placed}
use Rattle.series_ops.proofs.series_laws_proofs.Repeating.{rising_by_one}
use Rattle.series_ops.proofs.series_form_proofs.DateNumbers.{times_product}
use Rattle.teg_net.specs.Nets.{NetLists}
use Rattle.teg_settle.specs.walk_times.Transfers.{IsTransferOf}
use Rattle.teg_settle.specs.teg_model.Datings.{listed_releases}
use Rattle.teg_settle.proofs.teg_model_proofs.Tokens.{dates_climb}
use Rattle.teg_settle.specs.settled_laws.SettledForms.{SettledForm, HasSizes, IsSettledFormOf, NeverFalls, StandsFor, row_of, step_of_form, settled_date, settled_date_past, settled_length, periods_past}
use Rattle.teg_settle.proofs.settled_laws_proofs.Telling.{form_tells}
use Rattle.realization_laws.proofs.Periodic.{periodic}
use Rattle.net_matrices.specs.SettledSeries.{NeverFallsAnywhere, dates_from}

module _ (f : SettledForm) (sizes : HasSizes (length f.rows) f) (t : ℕ) (in' : t < length f.rows) where
  abbrev row : List Date
  row = row_of f t

  abbrev form : Form
  form = form_with row f.period (step_of_form f t)

  pub row_length : length row ≡ settled_length f
  row_length = sizes.full t [] in'

  -- a number past the row, so many periods and r after its last period begins
  past : (k q r : ℕ) → r < f.period → k ≡ f.after + ((q + 1) * f.period + r) → (q + 1) ≡ periods_past f (k + 1) → value_at form k ≡ settled_date_past f t (k + 1)
  past k q r low at rounds =
      let long = row_length in
      let some = sizes.at_least_one in
      let start : length row - f.period ≡ f.after = omega (arith, long) in
      let placed : value_at form k ≡ move (times (q + 1) (step_of_form f t)) (get_or row ((length row - f.period) + r) Early) =
      value_placed form (omega (arith, some)) (omega (arith, long)) (q + 1) r k low (omega (arith, start, at)) in
      let there : (length row - f.period) + r ≡ ((k + 1) - (q + 1) * f.period) - 1 = omega (arith, start, at) in
      placed
      ∙ (ap (λ (z : ℤ). move z (get_or row ((length row - f.period) + r) Early)) (times_product (q + 1) (step_of_form f t))
      ∙ (ap (λ (z : ℕ). move (pos (q + 1) *ℤ step_of_form f t) (get_or row z Early)) there
      ∙ ap (λ (z : ℕ). move (pos z *ℤ step_of_form f t) (get_or row (((k + 1) - z * f.period) - 1) Early)) rounds))

  -- the values are the dates
  pub row_values : (k : ℕ) → value_at form k ≡ dates_from f t k
  row_values k =
      let long = row_length in
      let some = sizes.at_least_one in
      ⊎_elim
      (λ (l : k < length row).
      let e : leb (k + 1) (settled_length f) ≡ true = (let m : k + 1 ≤ settled_length f = omega (arith, l, long) in grind (arith, nat_tests)) in
      let back : (k + 1) - 1 ≡ k = omega arith in
      value_in form k l ∙ (ap (λ (z : ℕ). get_or row z Early) (sym back) ∙ rw e refl))
      (λ (l : length row ≤ k).
      let e : leb (k + 1) (settled_length f) ≡ false = (let m : settled_length f < k + 1 = omega (arith, l, long) in grind (arith, nat_tests)) in
      let rest : ℕ = k - settled_length f in
      let q : ℕ = rest / f.period in
      let r : ℕ = rest % f.period in
      let low : r < f.period = mod_below rest f.period (omega (arith, some)) in
      let parts : q * f.period + r ≡ rest = div-add-mod' rest f.period in
      let more : (q + 1) * f.period ≡ q * f.period + f.period = grind arith in
      let at : k ≡ f.after + ((q + 1) * f.period + r) = omega (arith, parts, more, l, long) in
      let less : (k + 1) - settled_length f - 1 ≡ rest = omega arith in
      let rounds : q + 1 ≡ periods_past f (k + 1) = ap (λ (z : ℕ). z / f.period + 1) (sym less) in
      past k q r low at rounds ∙ rw e refl)
      (cases_lt k (length row))

  pub row_rises : NeverFallsAnywhere f → Rising (value_at form)
  row_rises h =
      let same : value_at form ≡ dates_from f t = λ i k. row_values k i in
      subst (λ (z : ℕ → Date). Rising z) (sym same) (rising_by_one (dates_from f t) (λ k. record { holds = h t (k + 1) in' (omega arith) }))

  -- what is answered of the row is answered of the dates
  pub row_answers : (r : Result Form SeriesRefused) → AnswersOf (λ s. HasValues s (value_at form)) (length row) (length row) r
      → AnswersOf (λ s. HasValues s (dates_from f t)) (settled_length f) (settled_length f) r
  row_answers r h =
      let same : value_at form ≡ dates_from f t = λ i k. row_values k i in
      subst (λ (z : ℕ → Date). AnswersOf (λ s. HasValues s z) (settled_length f) (settled_length f) r) same
      (subst (λ (n : ℕ). AnswersOf (λ s. HasValues s (value_at form)) n n r) row_length h)

-- ---- dates never fall

by_dates : (f : SettledForm) (count : ℕ) (x : ℕ → ℕ → Date) → StandsFor count f x → NeverFalls count x → NeverFallsAnywhere f
by_dates f count x stands climbs t k l o =
    let in' : t < count = (let rows = stands.sizes.rows_are in omega (arith, rows, l)) in
    let here : settled_date f t k ≡ x t k = form_tells count f x stands t k in' o in
    let there : settled_date f t (k + 1) ≡ x t (k + 1) = form_tells count f x stands t (k + 1) in' (omega arith) in
    rw (here, there) (climbs t k in' o)

pub dates_never_fall : (net : NetLists) (f : SettledForm) → IsSettledFormOf net f → NeverFallsAnywhere f
dates_never_fall net f h = by_dates f (length net.transitions) h.0 h.2.stands (λ t k l o. dates_climb net (listed_releases net) h.0 h.1.feasible t k l o)

pub times_never_fall : (net : NetLists) (input : ℕ) (f : SettledForm) → IsTransferOf net input f → NeverFallsAnywhere f
times_never_fall net input f h =
    by_dates f (length net.transitions) h.0 h.2.stands
    (λ t k l o.
    let repeats = h.2.stands.repeats in
    let causal = periodic net input t (λ j. h.0 t (j + 1)) (λ j. h.1 t (j + 1) l (omega arith)) (step_of_form f t) f.after f.period repeats.at_least_one
    (λ j m. let e : j + f.period + 1 ≡ j + 1 + f.period = omega arith in ap (h.0 t) e ∙ repeats.again t (j + 1) l (omega (arith, m))) in
    let back : (k - 1) + 1 ≡ k = omega (arith, o) in
    rw back at (causal.never_falls (k - 1)))
