use Rattle.std.specs.Prelude.{slice_index}
use Rattle.law_examples.proofs.timetables.earliest_is_one.Goals as goal

pub returns : goal.returns
returns c other =
    c.earliest_timetables_exist.ensures.one c.args.net.now c.args.period (slice_index c.in_ok-firsts.firsts.items) other c.in_ok-firsts.ensures.earliest.least
