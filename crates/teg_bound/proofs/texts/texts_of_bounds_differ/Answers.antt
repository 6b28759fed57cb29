use Rattle.teg_bound.proofs.Reading.{texts_of_bounds_differ}
use Rattle.teg_bound.proofs.texts.texts_of_bounds_differ.Goals as goal

pub returns : goal.returns
returns c = texts_of_bounds_differ
