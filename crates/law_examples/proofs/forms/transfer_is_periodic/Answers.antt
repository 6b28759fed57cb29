use Rattle.teg_model.proofs.OfNet.{net_ends}
use Rattle.law_examples.proofs.forms.transfer_is_periodic.Goals as goal

pub returns : goal.returns
returns c =
    c.transfers_are_periodic.ensures c.args.net.now (net_ends c.args.net.now c.rules.ensures) (c.ranked_nets_are_live.ensures c.args.net.now c.args.live.now c.requires.live)
    c.args.input.index c.requires.input
