use Rattle.law_examples.proofs.timetables.no_token_waits.Goals as goal

pub returns : goal.returns
returns c first = c.greatest_times_are_places_back.ensures.exact c.args.period first c.args.place.now
