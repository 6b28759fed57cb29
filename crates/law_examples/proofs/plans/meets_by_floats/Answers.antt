use Rattle.teg_due.specs.RowRules.{due_in}
use Rattle.teg_jit.specs.Plans.{dates_of_plan}
use Rattle.teg_model.proofs.OfNet.{net_ends}
use Rattle.law_examples.proofs.plans.meets_by_floats.Goals as goal

pub returns : goal.returns
returns c v x f =
    c.inputs_meet_by_floats.ensures c.args.net.now (net_ends c.args.net.now c.rules.ensures) (due_in c.args.due.now.rows.items) v x (dates_of_plan c.args.plan.now) f c.requires.plan.latest
