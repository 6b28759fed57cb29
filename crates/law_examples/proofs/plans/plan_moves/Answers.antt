use Rattle.teg_due.specs.RowRules.{due_in}
use Rattle.teg_jit.specs.Plans.{dates_of_plan}
use Rattle.law_examples.proofs.plans.plan_moves.Goals as goal

pub returns : goal.returns
returns c =
    c.latest_dates_move_with_dues.ensures.shifted c.args.net.now (due_in c.args.due.now.rows.items) (dates_of_plan c.args.plan.now) c.args.later c.requires.plan.latest
