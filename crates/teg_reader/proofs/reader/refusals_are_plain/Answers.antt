use Rattle.teg_reader.proofs.SpotLemmas.{plain_documents}
use Rattle.teg_reader.proofs.reader.refusals_are_plain.Goals as goal

pub returns : goal.returns
returns c = plain_documents
