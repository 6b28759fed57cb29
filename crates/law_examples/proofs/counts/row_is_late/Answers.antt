use Rattle.teg_model.proofs.OfNet.{net_ends}
use Rattle.law_examples.proofs.counts.row_is_late.Goals as goal

pub returns : goal.returns
returns c x f =
    c.slow_dues_are_late.ensures c.args.net.now (net_ends c.args.net.now c.rules.ensures)
    (c.ranked_nets_are_live.ensures c.args.net.now c.args.live.now c.requires.live) x f c.args.row.now c.requires.row
    c.args.circuit.now c.args.way.now c.args.start.index c.requires.start c.requires.circuit c.requires.way c.requires.slow
