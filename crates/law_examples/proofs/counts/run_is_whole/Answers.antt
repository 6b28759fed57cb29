use Rattle.law_examples.proofs.counts.run_is_whole.Goals as goal

pub returns : goal.returns
returns c x f e = c.earliest_runs_are_whole.ensures.whole c.args.net.now x c.args.most c.args.run.now f e
