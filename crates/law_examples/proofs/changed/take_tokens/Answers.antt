use Rattle.law_examples.proofs.changed.take_tokens.Goals as goal

pub returns : goal.returns
returns c = rw c.set_tokens.ensures (c.fewer_tokens_make_slower_nets.ensures.fewer c.args.net.now c.args.place c.args.tokens c.requires.fewer)
