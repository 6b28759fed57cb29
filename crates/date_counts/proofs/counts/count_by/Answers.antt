use Rattle.date_counts.proofs.Steady.{steady, of_least, of_counters}
use Rattle.date_counts.proofs.counts.count_by.Goals as goal

pub count_in-requires-clause-steady : goal.count_in-requires-clause-steady
count_in-requires-clause-steady c = steady c.args.net.now c.args.settled.now c.requires.form c.args.transition.index c.requires.transition

pub returns-clause-count : goal.returns-clause-count
returns-clause-count c = of_least c.args.net.now c.args.settled.now c.requires.form c.args.transition.index c.requires.transition c.args.date c.count_in.result c.count_in.ensures

pub returns-clause-counters : goal.returns-clause-counters
returns-clause-counters c = λ x counters least h.
    of_counters c.args.net.now x counters c.args.transition.index c.args.date c.count_in.result c.requires.transition h
    (of_least c.args.net.now c.args.settled.now c.requires.form c.args.transition.index c.requires.transition c.args.date c.count_in.result c.count_in.ensures x least)
