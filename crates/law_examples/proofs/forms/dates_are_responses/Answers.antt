use Rattle.teg_model.proofs.OfNet.{net_ends}
use Rattle.law_examples.proofs.forms.dates_are_responses.Goals as goal

pub returns : goal.returns
returns c =
    c.dates_are_outputs.ensures.walks c.args.net.now (net_ends c.args.net.now c.rules.ensures) (c.ranked_nets_are_live.ensures c.args.net.now c.args.live.now c.requires.live)
