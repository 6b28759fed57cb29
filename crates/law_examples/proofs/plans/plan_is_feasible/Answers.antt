use Rattle.teg_due.specs.RowRules.{due_in}
use Rattle.teg_jit.specs.Plans.{dates_of_plan}
use Rattle.teg_model.proofs.OfNet.{net_ends}
use Rattle.law_examples.proofs.plans.plan_is_feasible.Goals as goal

pub returns-clause-feasible : goal.returns-clause-feasible
returns-clause-feasible c =
    (c.latest_dates_are_feasible.ensures.feasible c.args.net.now (net_ends c.args.net.now c.rules.ensures) (due_in c.args.due.now.rows.items)
    (dates_of_plan c.args.plan.now) (dates_of_plan c.args.plan.now) c.requires.meets c.requires.plan.latest).0

pub returns-clause-keeps : goal.returns-clause-keeps
returns-clause-keeps c =
    (c.latest_dates_are_feasible.ensures.feasible c.args.net.now (net_ends c.args.net.now c.rules.ensures) (due_in c.args.due.now.rows.items)
    (dates_of_plan c.args.plan.now) (dates_of_plan c.args.plan.now) c.requires.meets c.requires.plan.latest).1
