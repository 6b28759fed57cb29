use Rattle.law_examples.proofs.paces.period_leaves_time.Goals as goal

pub returns : goal.returns
returns c =
    c.workable_periods_leave_time.ensures.circuits c.args.net.now c.args.period c.args.table.now c.requires.workable
