use Rattle.law_examples.proofs.timetables.period_between_is_kept.Goals as goal

pub returns : goal.returns
returns c times low high =
    c.periods_between_keep_greatest_times.ensures c.args.net.now times c.args.low c.args.between c.args.high c.requires.low c.requires.high low high
