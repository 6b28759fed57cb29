use Rattle.teg_model.proofs.OfNet.{net_ends}
use Rattle.law_examples.proofs.games.fires_on.Goals as goal

pub returns : goal.returns
returns c =
    (c.live_nets_fire_on.ensures c.args.net.now (net_ends c.args.net.now c.rules.ensures) c.requires.endless).0
    (c.ranked_nets_are_live.ensures c.args.net.now c.args.live.now c.requires.live)
