use Rattle.teg_due.specs.RowRules.{due_in}
use Rattle.teg_jit.specs.Plans.{dates_of_plan}
use Rattle.teg_model.proofs.OfNet.{net_ends}
use Rattle.law_examples.proofs.plans.given_meet_by_plan.Goals as goal

pub returns : goal.returns
returns c n given are =
    c.given_inputs_meet_in_time.ensures.meet c.args.net.now (net_ends c.args.net.now c.rules.ensures) (c.ranked_nets_are_live.ensures c.args.net.now c.args.live.now c.requires.live)
    (due_in c.args.due.now.rows.items) c.requires.zero (dates_of_plan c.args.plan.now) c.requires.plan.latest n given are
