use Rattle.teg_net.proofs.NetRules.{lists_by_rule}
use Rattle.teg_model.proofs.OfNet.{net_ends}
use Rattle.law_examples.proofs.turns.dates_move_on.Goals as goal

pub returns : goal.returns
returns c x step least =
    let live = c.ranked_nets_are_live.ensures c.args.net.now c.args.live.now c.requires.live in
    c.listed_dates_jump.ensures.jump c.args.net.now (net_ends c.args.net.now c.rules.ensures) (lists_by_rule c.args.net.now c.rules.ensures) live x least c.args.window.now.after c.args.window.now.turn c.args.window.now.last c.args.turns step
