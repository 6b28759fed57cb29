use Rattle.law_examples.proofs.counts.counts_are_one.Goals as goal

pub returns : goal.returns
returns c x n other f g =
    c.counters_exist.ensures.one c.args.net.now x n other f g c.args.transition.index c.args.date c.requires.transition
