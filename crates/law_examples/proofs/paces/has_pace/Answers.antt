use Rattle.law_examples.proofs.paces.has_pace.Goals as goal

pub returns : goal.returns
returns c = c.greatest_ratios_exist.ensures.nets c.args.net.now (c.ranked_nets_are_live.ensures c.args.net.now c.args.live.now c.requires.live)
