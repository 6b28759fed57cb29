use Rattle.teg_text.proofs.NamesRead.{transition_back, place_back}
use Rattle.teg_text.proofs.laws.names_are_read.Goals as goal

pub returns-clause-transitions : goal.returns-clause-transitions
returns-clause-transitions c net rules id h = transition_back net id rules h

pub returns-clause-places : goal.returns-clause-places
returns-clause-places c net rules id h = place_back net id rules h
