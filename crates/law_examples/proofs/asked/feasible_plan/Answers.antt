use Rattle.teg_due.specs.RowRules.{due_in}
use Rattle.teg_jit.specs.Plans.{dates_of_plan}
use Rattle.teg_model.proofs.OfNet.{net_ends}
use Rattle.law_examples.proofs.asked.feasible_plan.Goals as goal

pub returns-clause-feasible : goal.returns-clause-feasible
returns-clause-feasible c =
    let plan = c.in_ok-plan.plan in
    let inputs = c.in_ok-plan.ensures.inputs in
    (c.latest_dates_are_feasible.ensures.feasible c.args.net.now (net_ends c.args.net.now c.rules.ensures)
    (due_in c.args.due.now.rows.items) (dates_of_plan plan) (dates_of_plan plan) inputs.meet c.in_ok-plan.ensures.plan.latest).0
