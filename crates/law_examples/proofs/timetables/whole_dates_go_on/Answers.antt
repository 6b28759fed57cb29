use Rattle.law_examples.proofs.timetables.whole_dates_go_on.Goals as goal

pub returns : goal.returns
returns c = c.whole_dates_keep_places.ensures.repeat c.args.period.tokens c.args.period.time c.args.first c.args.number c.requires.some c.requires.number
