use Rattle.law_examples.proofs.timetables.clock_tells_period.Goals as goal

pub returns : goal.returns
returns c =
    c.clocks_tell_periods.ensures.periods c.args.net.now c.args.clocked.now c.args.clock.index c.args.period c.requires.clock
