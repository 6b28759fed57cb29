use Rattle.law_examples.proofs.changed.hold_longer.Goals as goal

pub returns : goal.returns
returns c = rw c.set_hold.ensures (c.longer_holds_make_slower_nets.ensures.longer c.args.net.now c.args.place c.args.hold c.requires.longer)
