use Rattle.law_examples.proofs.counts.counts_tell_date.Goals as goal

pub returns : goal.returns
returns c x y n f g =
    c.live_nets_have_counters.ensures.dates c.args.net.now x y n f g c.args.transition.index c.args.number c.requires.transition c.requires.number
