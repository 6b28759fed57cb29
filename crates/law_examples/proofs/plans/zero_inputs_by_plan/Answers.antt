use Rattle.teg_due.specs.RowRules.{due_in}
use Rattle.teg_jit.specs.Plans.{dates_of_plan}
use Rattle.teg_model.proofs.OfNet.{net_ends}
use Rattle.law_examples.proofs.plans.zero_inputs_by_plan.Goals as goal

pub returns : goal.returns
returns c =
    let live = c.ranked_nets_are_live.ensures c.args.net.now c.args.live.now c.requires.live in
    c.zero_inputs_meet_by_starts.ensures.numbered c.args.net.now (net_ends c.args.net.now c.rules.ensures) live (due_in c.args.due.now.rows.items) c.args.last
    c.requires.last (dates_of_plan c.args.plan.now) c.requires.plan.latest
