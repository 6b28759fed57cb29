use Rattle.law_examples.proofs.changed.further_places.Goals as goal

pub returns : goal.returns
returns c = c.further_places_make_slower_nets.ensures c.args.net.now c.args.places.now
