use Rattle.law_examples.proofs.counts.counts_are_least.Goals as goal

pub returns : goal.returns
returns c u x r n h =
    c.counters_solve_min_plus_equations.ensures.equations c.args.net.now u x r n h c.args.transition.index c.args.date c.args.number c.requires.transition c.requires.number
