use Rattle.law_examples.proofs.periods.transfer_divides.Goals as goal

pub returns : goal.returns
returns c =
    c.cyclicity_is_by_parts.ensures.divide c.args.net.now c.args.ratio.time c.args.ratio.tokens c.requires.strong c.args.start.index c.requires.start
    c.args.transfer.now c.requires.transfer c.args.multiple c.requires.some (λ _. c.requires.common)
