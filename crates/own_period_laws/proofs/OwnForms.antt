-- Own periods tell the form: each divides every period of its transition.
use Rattle.std.proofs.Common.{ℕ, ℤ, suc, pos, ◌+◌, ◌*◌, ◌/◌, ◌<◌, ◌≤◌, ◌≡◌, subst, arith, ⊎_elim}
use Rattle.std.specs.Prelude.{◌*ℤ◌}
use Rattle.std.specs.Int.{◌∣◌}
use Rattle.std.proofs.lemmas.Bool.{cases_lt}
use Rattle.std.proofs.lemmas.Nat.Gcd.{le_of_dvd}
use Rattle.std.proofs.Math.Nat.{div-mul_cancel}
use Rattle.dioid.specs.declared.dates.Date.{Date}
use Rattle.dioid.specs.Dates.{move}
use Rattle.settled_laws.specs.SettledForms.{RepeatsAfter}
use Rattle.settled_laws.proofs.Repeating.{HasCommon, gcd_period, lowered}
use Rattle.settled_laws.proofs.Telling.{rounds_on}
use Rattle.own_period_laws.specs.OwnPeriods.{GoesOn}
use Rattle.own_period_laws.specs.OwnForms.{IsOwnPeriod, OwnPeriodsTellForms}

-- the dates of one transition as a dating
as_form : (dates : ℕ → Date) (from period : ℕ) (step : ℤ) → 1 ≤ period → GoesOn dates from period step → RepeatsAfter 1 (λ t. dates) from period (λ t. step)
as_form dates from period step one h = record { at_least_one = one; again = λ t k l a. h k a }

-- an own period divides each period of its dates
own_divides : (dates : ℕ → Date) (from period : ℕ) (step : ℤ) → IsOwnPeriod dates from period step
    → (k p : ℕ) (s : ℤ) → 1 ≤ p → GoesOn dates k p s → period ∣ p
own_divides dates from period step own k p s one h =
    let mine : RepeatsAfter 1 (λ t. dates) from period (λ t. step) = as_form dates from period step own.at_least_one own.again in
    let other : RepeatsAfter 1 (λ t. dates) k p (λ t. s) = as_form dates k p s one h in
    let g : HasCommon 1 (λ t. dates) from period p = gcd_period 1 (λ t. dates) from (suc (period + p)) period p (omega arith)
    (record { step = λ t. step; repeats = mine })
    (record { step = λ t. s; repeats = lowered 1 (λ t. dates) from k period p (λ t. step) (λ t. s) mine other }) in
    let some = own.at_least_one in
    let up : g.gcd ≤ period = le_of_dvd (omega (arith, some)) g.is_gcd.0 in
    let form = g.form.repeats in
    ⊎_elim
    (λ (m : g.gcd < period). absurd (own.least g.gcd (g.form.step 0) form.at_least_one m (λ i a. form.again 0 i (omega arith) a)))
    (λ (m : period ≤ g.gcd). let same : g.gcd ≡ period = omega (arith, up, m) in subst (λ z. z ∣ p) same g.is_gcd.1)
    (cases_lt g.gcd period)

pub own_periods_tell_forms : OwnPeriodsTellForms
own_periods_tell_forms count x from period step own whole after common begun = record {
  by = λ t. pos (whole / period t) *ℤ step t;
  repeats = record {
    at_least_one = common.at_least_one;
    again = λ t k l a.
        let times : whole / period t * period t ≡ whole = div-mul_cancel (period t) (common.common t l) in
        let mine : RepeatsAfter 1 (λ v. x t) after (period t) (λ v. step t) = as_form (x t) after (period t) (step t) (own t l).at_least_one (begun.again t l) in
        subst (λ z. x t (k + z) ≡ move (pos (whole / period t) *ℤ step t) (x t k)) times
        (rounds_on 1 (λ v. x t) after (period t) (λ v. step t) mine 0 k (whole / period t) (omega arith) a);
  };
  least_period = λ k p s f.
      let one = f.at_least_one in
      le_of_dvd (omega (arith, one)) (common.least p (λ t l. own_divides (x t) from (period t) (step t) (own t l) k p (s t) f.at_least_one (λ i a. f.again t i l a)));
  least_after = λ k p s f.
      ⊎_elim
      (λ (m : k < after).
      absurd (begun.first (omega (arith, m))
      (λ t l.
      let mine : RepeatsAfter 1 (λ v. x t) after (period t) (λ v. step t) = as_form (x t) after (period t) (step t) (own t l).at_least_one (begun.again t l) in
      let other : RepeatsAfter 1 (λ v. x t) k p (λ v. s t) = as_form (x t) k p (s t) f.at_least_one (λ i a. f.again t i l a) in
      (lowered 1 (λ v. x t) k after p (period t) (λ v. s t) (λ v. step t) other mine).again 0 after (omega arith) m)))
      (λ (m : after ≤ k). m)
      (cases_lt k after);
}
