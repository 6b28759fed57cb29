use Rattle.teg_forever.proofs.ReadBack.{texts_differ}
use Rattle.teg_forever.proofs.texts.texts_of_endless_differ.Goals as goal

pub returns : goal.returns
returns c = texts_differ
