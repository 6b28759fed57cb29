use Rattle.law_examples.proofs.timetables.job_may_take_longer.Goals as goal

pub returns : goal.returns
returns c more longer =
    c.jobs_may_take_longer.ensures c.args.net.now c.args.longer.now c.args.ratio c.args.job.index more longer c.requires.greatest
