use Rattle.std.proofs.Common.{◌-◌, ◌^◌, ◌<◌, ◌≤◌, ◌≡◌, ◌∙◌, arith, rules, ⊎_elim, to_z, of_z}
use Rattle.std.specs.Prelude.{FitsSigned}
use Rattle.std.specs.Int.{w128}
use Rattle.std.proofs.lemmas.Int.{to_z-of_z}
use Rattle.std.proofs.lemmas.Bool.{cases_lt}
use Rattle.periodic_laws.specs.teg_model.DateBounds.{greatest_least_date}
use Rattle.periodic_laws.proofs.teg_model_proofs.Within.{within_more}
use Rattle.teg_bound.specs.JumpedRows.{AreNumbersMoved, run_step}
use Rattle.teg_bound.proofs.jumps.period_at.Goals as goal

pub step_between-step-requires-clause-early : goal.step_between-step-requires-clause-early
step_between-step-requires-clause-early c = within_more greatest_least_date (2 ^ 126) c.date.result (omega arith) c.date.ensures.within

pub step_between-step-requires-clause-late : goal.step_between-step-requires-clause-late
step_between-step-requires-clause-late c = within_more greatest_least_date (2 ^ 126) c.date-in-loop-period.result (omega arith) c.date-in-loop-period.ensures.within

pub returns-in-None-clause-first : goal.returns-in-None-clause-first
returns-in-None-clause-first c =
    let fits : FitsSigned w128 c.step_between-step.result = search rules in
    let step_is : to_z w128 (of_z w128 c.step_between-step.result) ≡ c.step_between-step.result = to_z-of_z w128 c.step_between-step.result fits in
    let shown = rw (c.date.ensures.value, c.date-in-loop-period.ensures.value) at c.step_between-step.ensures in
    record {
      one = omega (arith);
      few = omega (arith, c.loop-period-test.true);
      step = step_is ∙ shown;
      again = rw c.in-None.is at c.apart.ensures;
      first = c.loop-period.invariant;
    }

pub loop-period-preserved : goal.loop-period-preserved
loop-period-preserved c = λ p o l.
    let net = c.args.net.now in
    let runs = c.args.rows.now.runs in
    let n = c.loop-period.period in
    let fits : FitsSigned w128 c.step_between-step.result = search rules in
    let step_is : to_z w128 (of_z w128 c.step_between-step.result) ≡ c.step_between-step.result = to_z-of_z w128 c.step_between-step.result fits in
    let shown = rw (c.date.ensures.value, c.date-in-loop-period.ensures.value) at c.step_between-step.ensures in
    let bad = rw (step_is, shown) at (rw c.in-Some.is at c.apart.ensures) in
    ⊎_elim
    (λ (q : p < n). c.loop-period.invariant p o q)
    (λ (q : n ≤ p).
    let is : p ≡ n = omega (arith, q, l) in
    rw is bad)
    (cases_lt p n)
