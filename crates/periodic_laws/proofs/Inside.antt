-- Dates of the first transitions alone: all others are Early.
use Rattle.std.proofs.Common.{◌≡◌, refl, ap, arith, ℕ, pos, ◌+◌, ◌-◌, ◌≤◌, ◌<◌, sym, ◌∙◌, subst, ⊎_elim, true, false, cond, ltb}
use Rattle.std.proofs.lemmas.Bool.{cases_lt}
use Rattle.std.proofs.lemmas.Bool.Decides.{nat_tests}
use Rattle.series_ops.specs.dioid.declared.dates.Date.{Date}
use Rattle.series_ops.specs.dioid.declared.dates.Date.TheVariants.{Early}
use Rattle.series_ops.specs.dioid.Dates.{move}
use Rattle.series_ops.specs.dioid.DateOrder.{Le}
use Rattle.series_ops.proofs.dioid_proofs.AtMost.{le_is, le_trans}
use Rattle.series_ops.specs.series_laws.Periodic.{Repeats}
use Rattle.series_ops.specs.series_laws.SeriesForms.{Form, repeat_start, value_at, IsCanonical, canonical_of}
use Rattle.series_ops.proofs.series_laws_proofs.Repeating.{rising_by_one}
use Rattle.series_ops.proofs.series_laws_proofs.FormValues.{value_repeats}
use Rattle.series_ops.specs.declared.gains.Gain.{Gain}
use Rattle.series_ops.specs.Gains.{gain_of}
use Rattle.periodic_laws.specs.PeriodicDates.{IsPeriodic, ArePeriodic}
use Rattle.periodic_laws.specs.LinearSystem.{PeriodicDatingsSettle}
use Rattle.periodic_laws.proofs.Values.{Holds}
use Rattle.periodic_laws.proofs.InputColumns.{RisesAndRepeats, periodic_holds}
use Rattle.periodic_laws.proofs.Forms.{values_settle}

-- ---- dates of numbers as values at shifts

abbrev pub from_first : (ℕ → Date) → ℕ → Date
from_first dates k = dates (k + 1)

rises_from_first : (dates : ℕ → Date) (h : IsPeriodic dates) → RisesAndRepeats (from_first dates) h.after h.period
rises_from_first dates h = record {
  rises = rising_by_one (from_first dates) (λ k. record { holds = h.rises (k + 1) (omega arith) });
  turns = h.at_least_one;
  step = h.step;
  repeats = record { at = λ k w. let e : (k + 1) + h.period ≡ (k + h.period) + 1 = omega arith in ap dates (sym e) ∙ h.again (k + 1) (omega arith) };
}

-- the gain of periodic dates
abbrev pub periodic_gain : (dates : ℕ → Date) → IsPeriodic dates → Gain
periodic_gain dates h = gain_of (canonical_of (from_first dates) h.after h.period)

pub periodic_gain_holds : (dates : ℕ → Date) (h : IsPeriodic dates) → Holds (periodic_gain dates h) (from_first dates)
periodic_gain_holds dates h = periodic_holds (from_first dates) h.after h.period (rises_from_first dates h)

-- and the values of a canonical form are periodic dates
pub values_periodic : (f : Form) (dates : ℕ → Date) → IsCanonical f → ((k : ℕ) → value_at f k ≡ dates (k + 1)) → IsPeriodic dates
values_periodic f dates is same =
    let own : Repeats (value_at f) (repeat_start f) f.period f.step = value_repeats f is.form.period_positive is.form.period_fits in
    record {
      after = repeat_start f;
      period = f.period;
      step = f.step;
      at_least_one = is.form.period_positive;
      rises = λ k o.
          let here : (k - 1) + 1 ≡ k = omega arith in
          let up : Le (value_at f (k - 1)) (value_at f k) = is.form.rising.rises (k - 1) k (omega arith) in
          (le_trans (le_is (sym (same (k - 1) ∙ ap dates here))) (le_trans up (le_is (same k)))).holds;
      again = λ k l.
          let here : (k - 1) + 1 ≡ k = omega arith in
          let there : ((k - 1) + f.period) + 1 ≡ k + f.period = omega arith in
          ap dates (sym there) ∙ sym (same ((k - 1) + f.period)) ∙ own.at (k - 1) (omega arith) ∙ ap (move f.step) (same (k - 1) ∙ ap dates here);
    }

-- ---- the first transitions

abbrev pub inside : ℕ → (ℕ → ℕ → Date) → ℕ → ℕ → Date
inside count x t k = cond (ltb t count) (x t k) Early

pub inside_is : (count : ℕ) (x : ℕ → ℕ → Date) (t k : ℕ) → t < count → inside count x t k ≡ x t k
inside_is count x t k l = let e : ltb t count ≡ true = grind (arith, nat_tests) in rw e refl

pub inside_not : (count : ℕ) (x : ℕ → ℕ → Date) (t k : ℕ) → count ≤ t → inside count x t k ≡ Early
inside_not count x t k l = let e : ltb t count ≡ false = grind (arith, nat_tests) in rw e refl

early_periodic : IsPeriodic (λ k. Early)
early_periodic = record { after = 0; period = 1; step = pos 0; at_least_one = omega arith; rises = λ k o. tt; again = λ k l. refl }

pub inside_periodic : (count : ℕ) (x : ℕ → ℕ → Date) → ArePeriodic count x → (t : ℕ) → IsPeriodic (inside count x t)
inside_periodic count x h t = ⊎_elim
    (λ (l : t < count). let is : inside count x t ≡ x t = λ i k. inside_is count x t k l i in subst (λ (z : ℕ → Date). IsPeriodic z) (sym is) (h t l))
    (λ (l : count ≤ t). let is : inside count x t ≡ (λ k. Early) = λ i k. inside_not count x t k l i in subst (λ (z : ℕ → Date). IsPeriodic z) (sym is) early_periodic)
    (cases_lt t count)

pub periodic_settle : PeriodicDatingsSettle
periodic_settle count x h =
    let gain : ℕ → Gain = λ t. periodic_gain (inside count x t) (inside_periodic count x h t) in
    values_settle count (λ t. (gain t).series) (λ t. (periodic_gain_holds (inside count x t) (inside_periodic count x h t)).is) x
    (λ t k l. (periodic_gain_holds (inside count x t) (inside_periodic count x h t)).values k ∙ inside_is count x t (k + 1) l)
