use Rattle.due_laws.proofs.LatestInputs.{latest_dates_are_inputs}
use Rattle.date_rows.proofs.teg_model_proofs.OfNet.{net_ends}
use Rattle.teg_due.specs.RowRules.{due_in}
use Rattle.teg_jit.specs.Plans.{dates_of_plan}
use Rattle.teg_jit.proofs.planning.latest_inputs.Goals as goal

pub returns-clause-inputs : goal.returns-clause-inputs
returns-clause-inputs c =
    let plan = c.in_ok-plan_for.ensures.plan in
    latest_dates_are_inputs c.args.net.now (net_ends c.args.net.now c.keep_dues.ensures.rules) plan.live (due_in c.args.due.now.rows.items)
    (rw c.deref-2.ensures.value at c.in_ok-keep_dues.ensures.kept) (dates_of_plan c.in_ok-plan_for.field-0) (rw c.deref-3.ensures.value at plan.latest)
