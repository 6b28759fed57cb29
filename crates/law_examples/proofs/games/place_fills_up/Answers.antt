use Rattle.teg_net.proofs.NetRules.{net_ends}
use Rattle.law_examples.proofs.games.place_fills_up.Goals as goal

pub returns : goal.returns
returns c =
    c.places_fill_up.ensures c.args.net.now (net_ends c.args.net.now c.rules.ensures) (c.ranked_nets_are_live.ensures c.args.net.now c.args.live.now c.requires.live)
    c.requires.lists c.args.place c.requires.place c.args.most c.requires.most
