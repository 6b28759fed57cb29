use Rattle.law_examples.proofs.paces.rounds_are_within.Goals as goal

pub returns : goal.returns
returns c members lists =
    c.rounds_are_few.ensures.all c.args.net.now c.args.parts.now.part_of c.args.part members c.args.hold c.args.tokens c.args.rounds.now
    (c.ranked_nets_are_live.ensures c.args.net.now c.args.live.now c.requires.live) lists c.requires.run c.requires.holds c.requires.tokens
