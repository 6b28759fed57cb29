use Rattle.teg_model.specs.Datings.{listed_releases}
use Rattle.teg_model.proofs.OfNet.{net_ends}
use Rattle.law_examples.proofs.turns.dates_settle_where_none_falls.Goals as goal

pub returns : goal.returns
returns c x step pace least =
    c.no_fall_is_for_ever.ensures.settled c.args.net.now (net_ends c.args.net.now c.rules.ensures) (c.ranked_nets_are_live.ensures c.args.net.now c.args.live.now c.requires.live)
    (listed_releases c.args.net.now) x least c.args.window.now.after c.args.window.now.turn c.args.window.now.last step pace
