use Rattle.teg_jit.specs.Plans.{dates_of_plan}
use Rattle.teg_model.proofs.OfNet.{net_ends}
use Rattle.law_examples.proofs.turns.planned_dates_move_on.Goals as goal

pub returns : goal.returns
returns c x step pace least =
    let live = c.ranked_nets_are_live.ensures c.args.net.now c.args.live.now c.requires.live in
    c.dates_jump.ensures.jump c.args.net.now (net_ends c.args.net.now c.rules.ensures) live (dates_of_plan c.args.plan.now) x least
    c.args.window.now.after c.args.window.now.turn c.args.window.now.last c.args.turns step pace
