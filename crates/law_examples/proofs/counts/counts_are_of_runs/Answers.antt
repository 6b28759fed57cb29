use Rattle.law_examples.proofs.counts.counts_are_of_runs.Goals as goal

pub returns : goal.returns
returns c x n = c.counters_count_firings.ensures c.args.net.now x n c.args.most c.args.run.now
