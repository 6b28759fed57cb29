use Rattle.teg_model.proofs.OfNet.{net_ends}
use Rattle.law_examples.proofs.counts.row_is_not_late.Goals as goal

pub returns : goal.returns
returns c x inside n v f p s i l =
    (c.none_late_past_line.ensures.none c.args.net.now (net_ends c.args.net.now c.rules.ensures) (c.ranked_nets_are_live.ensures c.args.net.now c.args.live.now c.requires.live)
    x f c.args.row.now c.requires.row inside c.args.ratio.time c.args.ratio.tokens n v p s i c.args.last l).0
