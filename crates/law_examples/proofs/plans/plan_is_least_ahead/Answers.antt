use Rattle.teg_due.specs.RowRules.{due_in}
use Rattle.teg_jit.specs.Plans.{dates_of_plan}
use Rattle.teg_model.proofs.OfNet.{net_ends}
use Rattle.law_examples.proofs.plans.plan_is_least_ahead.Goals as goal

pub returns : goal.returns
returns c =
    c.latest_dates_solve_backwards.ensures.equations c.args.net.now (net_ends c.args.net.now c.rules.ensures) (due_in c.args.due.now.rows.items)
    (dates_of_plan c.args.plan.now) c.requires.plan.latest c.args.transition.index c.args.number c.requires.transition c.requires.number
