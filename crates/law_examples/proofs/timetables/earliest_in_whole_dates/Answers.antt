use Rattle.std.specs.Prelude.{slice_index}
use Rattle.law_examples.proofs.timetables.earliest_in_whole_dates.Goals as goal

pub returns : goal.returns
returns c =
    c.whole_dates_keep_places.ensures.keep c.args.net.now c.args.period.tokens c.args.period.time (slice_index c.in_ok-firsts.firsts.items) c.requires.some
    c.in_ok-firsts.ensures.earliest.least.workable
