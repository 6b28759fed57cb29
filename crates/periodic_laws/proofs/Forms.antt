-- Dates that are the values of canonical forms, one for each transition, repeat past the last of their starts in the product
-- of their periods, and so have a settled form.
use Rattle.std.proofs.Common.{◌≡◌, refl, ap, arith, ℕ, ℤ, zero, suc, pos, ◌+◌, ◌*◌, ◌-◌, ◌/◌, ◌≤◌, ◌<◌, sym, ◌∙◌, subst, ⊎_elim, inl, inr, [], map, length, get_or}
use Rattle.std.specs.Prelude.{◌⊎◌}
use Rattle.std.specs.List.{range_with_len}
use Rattle.std.proofs.lemmas.Int.{ints}
use Rattle.std.proofs.lemmas.List.Elements.{All-map}
use Rattle.std.proofs.lemmas.List.FromFn.{get_or-map-range_with_len, length-map-range_with_len}
use Rattle.series_ops.specs.dioid.declared.dates.Date.{Date}
use Rattle.series_ops.specs.dioid.declared.dates.Date.TheVariants.{Early, Never}
use Rattle.series_ops.specs.dioid.Dates.{move}
use Rattle.series_ops.specs.series_laws.Periodic.{Repeats, times}
use Rattle.series_ops.specs.series_laws.SeriesForms.{Form, repeat_start, value_at, IsForm, IsCanonical, table}
use Rattle.series_ops.proofs.series_laws_proofs.Repeating.{repeats_times}
use Rattle.series_ops.proofs.series_laws_proofs.FormValues.{value_repeats, table_length, table_at}
use Rattle.series_ops.proofs.series_laws_proofs.LeastForms.{never_start, early_start}
use Rattle.settled_laws.specs.SettledForms.{RepeatsAfter, IsTail, SettledForm, row_date, step_of_form, HasSizes, StandsFor, IsShortestForm}
use Rattle.settled_laws.proofs.Shortest.{shortest_exists}
use Rattle.periodic_laws.specs.RepeatNumbers.{common_start, common_period, common_step}
use Rattle.periodic_laws.proofs.Multiples.{le_greatest, product_positive, product_times}

times_none : (m : ℕ) → times m (pos 0) ≡ pos 0
times_none zero = refl
times_none (suc m) = let e : times m (pos 0) ≡ pos 0 = times_none m in omega (arith, ints)

module _ (count : ℕ) (f : ℕ → Form) (canonical : (t : ℕ) → IsCanonical (f t)) where
  abbrev after : ℕ
  after = common_start count f

  abbrev period : ℕ
  period = common_period count f

  abbrev step : ℕ → ℤ
  step = common_step count f

  repeats : (t : ℕ) → t < count → Repeats (value_at (f t)) (repeat_start (f t)) period (step t)
  repeats t l =
      let is : IsForm (f t) = (canonical t).form in
      let own : Repeats (value_at (f t)) (repeat_start (f t)) (f t).period (f t).step = value_repeats (f t) is.period_positive is.period_fits in
      let whole : period ≡ (period / (f t).period) * (f t).period = product_times (λ j. (f j).period) count t (λ j. (canonical j).form.period_positive) l in
      subst (λ (z : ℕ). Repeats (value_at (f t)) (repeat_start (f t)) z (step t)) (sym whole) (repeats_times (period / (f t).period) own)

  begun : (t : ℕ) → t < count → repeat_start (f t) ≤ after
  begun t l = le_greatest (λ j. repeat_start (f j)) count t l

  -- the form with the values of f as its dates
  abbrev settled : SettledForm
  settled = record {
    after = after;
    period = period;
    rows = map (λ t. table (value_at (f t)) (after + period)) (range_with_len 0 count);
    steps = map step (range_with_len 0 count);
  }

  settled_step : (t : ℕ) → t < count → step_of_form settled t ≡ step t
  settled_step t l = get_or-map-range_with_len step 0 count t t (pos 0) l (omega arith)

  settled_date : (t k : ℕ) → t < count → 1 ≤ k → k ≤ after + period → row_date settled t k ≡ value_at (f t) (k - 1)
  settled_date t k l o m =
      rw (get_or-map-range_with_len (λ j. table (value_at (f j)) (after + period)) 0 count t t [] l (omega arith))
      (table_at (value_at (f t)) (after + period) (k - 1) (omega arith))

  settled_sizes : HasSizes count settled
  settled_sizes = record {
    at_least_one = product_positive (λ t. (f t).period) count (λ t. (canonical t).form.period_positive);
    rows_are = length-map-range_with_len (λ t. table (value_at (f t)) (after + period)) 0 count;
    steps_are = length-map-range_with_len step 0 count;
    full = All-map (λ row. length row ≡ after + period) (λ t. table (value_at (f t)) (after + period)) (range_with_len 0 count)
        (λ i d l. table_length (value_at (f (get_or (range_with_len 0 count) i d))) (after + period));
  }

  module _ (x : ℕ → ℕ → Date) (values : (t k : ℕ) → t < count → value_at (f t) k ≡ x t (k + 1)) where
    again : (t k : ℕ) → t < count → after < k → x t (k + period) ≡ move (step t) (x t k)
    again t k l h =
        let here : (k - 1) + 1 ≡ k = omega arith in
        let there : ((k - 1) + period) + 1 ≡ k + period = omega arith in
        let low : repeat_start (f t) ≤ after = begun t l in
        ap (x t) (sym there) ∙ sym (values t ((k - 1) + period) l) ∙ (repeats t l).at (k - 1) (omega arith) ∙ ap (move (step t)) (values t (k - 1) l ∙ ap (x t) here)

    pub values_repeat : RepeatsAfter count x (common_start count f) (common_period count f) (common_step count f)
    values_repeat = record { at_least_one = product_positive (λ t. (f t).period) count (λ t. (canonical t).form.period_positive); again = again }

    still : (t : ℕ) → t < count → IsTail (x t) after period Never ⊎ IsTail (x t) after period Early → step t ≡ pos 0
    still t l h =
        let is : IsForm (f t) = (canonical t).form in
        let low : repeat_start (f t) ≤ after = begun t l in
        let one : 1 ≤ period = values_repeat.at_least_one in
        let none : (value_at (f t) (repeat_start (f t)) ≡ Never) ⊎ (value_at (f t) (repeat_start (f t)) ≡ Early)
        → step t ≡ pos 0 = λ w. ap (times (period / (f t).period)) (is.tail w).1 ∙ times_none (period / (f t).period) in
        ⊎_elim
        (λ (never : IsTail (x t) after period Never). none (inl (never_start (f t) is after (values t after l ∙ never (after + 1) (omega arith) (omega arith)))))
        (λ (early : IsTail (x t) after period Early). none (inr (early_start (f t) is after low (values t after l ∙ early (after + 1) (omega arith) (omega arith)))))
        h

    settled_stands : StandsFor count settled x
    settled_stands = record {
      sizes = settled_sizes;
      dates = λ t k l o m. let here : (k - 1) + 1 ≡ k = omega arith in settled_date t k l o m ∙ values t (k - 1) l ∙ ap (x t) here;
      repeats = record { at_least_one = values_repeat.at_least_one; again = λ t k l m. again t k l m ∙ ap (λ (z : ℤ). move z (x t k)) (sym (settled_step t l)) };
      still = λ t l e. settled_step t l ∙ still t l e;
    }

    pub values_settle : (g : SettledForm) × IsShortestForm count g x
    values_settle = let best = shortest_exists count x settled settled_stands in (best.0, best.1)
