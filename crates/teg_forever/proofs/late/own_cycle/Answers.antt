use Rattle.std.proofs.Common.{◌≡◌, ℕ, pos, ap, subst, sym, ◌∙◌, to_z, of_z}
use Rattle.std.specs.Int.{w128}
use Rattle.std.proofs.lemmas.Int.{to_z-of_z}
use lib.IntN.{nat_abs}
use Rattle.forever_laws.specs.settled_laws.SettledForms.{step_of_form}
use Rattle.teg_forever.specs.LateFirings.{RisesIn}
use Rattle.teg_forever.proofs.Cycles.{rises_in_period}
use Rattle.teg_forever.proofs.late.own_cycle.Goals as goal

pub returns-clause-rises : goal.returns-clause-rises
returns-clause-rises c =
    let f = c.args.row.now.settled in
    let t = c.args.row.now.row.transition.index in
    let told = c.settled-settled.ensures.told in
    let climbing = told.climbing in
    let read : c.step-step.result ≡ step_of_form f t = rw (c.settled-settled.ensures.value, c.row.ensures.value) at c.step-step.ensures.value in
    let period : c.period-period.result ≡ f.period = rw c.settled-settled.ensures.value at c.period-period.ensures.value in
    let step : to_z w128 (of_z w128 c.step-step.result) ≡ pos climbing.step = to_z-of_z w128 c.step-step.result (record { sfits = c.step-step.type_inv }) ∙ read ∙ climbing.step_is in
    subst (λ (n : ℕ). RisesIn f t c.period-period.result n) (sym (ap nat_abs step))
    (subst (λ (n : ℕ). RisesIn f t n climbing.step) (sym period) (rises_in_period f t climbing told.steps))
