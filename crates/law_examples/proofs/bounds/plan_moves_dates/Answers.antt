use Rattle.teg_jit.specs.Plans.{dates_of_plan}
use Rattle.teg_model.proofs.OfNet.{net_ends}
use Rattle.law_examples.proofs.bounds.plan_moves_dates.Goals as goal

pub returns : goal.returns
returns c free x y =
    c.releases_move_dates.ensures.dates c.args.net.now (net_ends c.args.net.now c.rules.ensures) (c.ranked_nets_are_live.ensures c.args.net.now c.args.live.now c.requires.live)
    c.args.later (dates_of_plan c.args.plan.now) free x y
