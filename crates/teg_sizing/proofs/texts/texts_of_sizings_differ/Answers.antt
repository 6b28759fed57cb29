use Rattle.teg_sizing.proofs.Reading.{texts_of_sizings_differ}
use Rattle.teg_sizing.proofs.texts.texts_of_sizings_differ.Goals as goal

pub returns : goal.returns
returns c = texts_of_sizings_differ
