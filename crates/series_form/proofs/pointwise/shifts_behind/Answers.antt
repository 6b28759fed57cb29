use Rattle.std.proofs.Common.{◌≡◌, ◌≤◌, ◌+◌, ◌*◌, ◌-ℤ◌, ℕ, ℤ, arith, ◌∙◌, ap, to_z, of_z}
use Rattle.std.specs.Int.{w128}
use Rattle.std.specs.Int.RustNames.{unsigned_abs}
use Rattle.std.proofs.lemmas.Int.{to_z-of_z}
use Rattle.std.proofs.lemmas.Nat.{mul-le}
use Rattle.series_laws.specs.Needs.{ceiling, lead_of, periods_behind, rise_of, fall_of}
use Rattle.series_form.specs.SeriesLimits.{most_common_shifts, greatest_moderate, greatest_gain_gap, most_waits, greatest_height}
use Rattle.series_form.proofs.DateNumbers.{moderate_fits}
use Rattle.series_form.proofs.pointwise.shifts_behind.Goals as goal

far : (n m : ℕ) (a b : ℤ) → unsigned_abs a ≤ greatest_moderate → unsigned_abs b ≤ greatest_gain_gap
    → n ≤ unsigned_abs (to_z w128 (of_z w128 a)) + unsigned_abs (to_z w128 (of_z w128 b)) → m ≤ most_common_shifts
    → n * m ≤ greatest_height
far n m a b ha hb hn hm =
    let ea : unsigned_abs (to_z w128 (of_z w128 a)) ≡ unsigned_abs a = ap unsigned_abs (to_z-of_z w128 a (moderate_fits a ha)) in
    let eb : unsigned_abs (to_z w128 (of_z w128 b)) ≡ unsigned_abs b = ap unsigned_abs (to_z-of_z w128 b (moderate_fits b (omega arith))) in
    let low : n ≤ most_waits = omega arith in
    let all : n * m ≤ most_waits * most_common_shifts = mul-le n m most_waits most_common_shifts low hm in
    omega arith

pub overflow_mul-result : goal.overflow_mul-result
overflow_mul-result c =
    let low : c.gains_for-periods.result * c.common_period-shifts.result ≤ greatest_height =
    far c.gains_for-periods.result c.common_period-shifts.result c.greatest_lead-lead.result c.lead_gain.result
    c.greatest_lead-lead.ensures.bound c.lead_gain.ensures.bound c.gains_for-periods.ensures.bound c.common_period-shifts.ensures.bound in
    omega arith

pub returns-clause-value : goal.returns-clause-value
returns-clause-value c =
    let lead : c.greatest_lead-lead.result ≡ lead_of c.args.first.now c.args.second.now = c.greatest_lead-lead.ensures.value in
    let a : to_z w128 (of_z w128 c.greatest_lead-lead.result) ≡ lead_of c.args.first.now c.args.second.now =
    to_z-of_z w128 c.greatest_lead-lead.result (record { sfits = c.greatest_lead-lead.type_inv }) ∙ lead in
    let b : to_z w128 (of_z w128 c.lead_gain.result) ≡ rise_of c.args.first.now c.args.second.now -ℤ fall_of c.args.first.now
    c.args.second.now = to_z-of_z w128 c.lead_gain.result (record { sfits = c.lead_gain.type_inv }) ∙ c.lead_gain.ensures.value in
    let periods : c.gains_for-periods.result ≡ periods_behind c.args.first.now c.args.second.now =
    c.gains_for-periods.ensures.value ∙ ap (λ (z : ℤ). ceiling z (to_z w128 (of_z w128 c.lead_gain.result))) a ∙ ap (ceiling (lead_of c.args.first.now c.args.second.now)) b in
    ap (λ (z : ℕ). z * c.common_period-shifts.result) periods ∙ ap (λ (z : ℕ). periods_behind c.args.first.now c.args.second.now * z) c.common_period-shifts.ensures.value

pub returns-clause-bound : goal.returns-clause-bound
returns-clause-bound c =
    far c.gains_for-periods.result c.common_period-shifts.result c.greatest_lead-lead.result c.lead_gain.result
    c.greatest_lead-lead.ensures.bound c.lead_gain.ensures.bound c.gains_for-periods.ensures.bound c.common_period-shifts.ensures.bound
