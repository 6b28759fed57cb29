use Rattle.teg_reader.proofs.SoundLemmas.{sound_input}
use Rattle.teg_reader.proofs.entries.make_input.Goals as goal

pub number_of-transition-requires-clause-known : goal.number_of-transition-requires-clause-known
number_of-transition-requires-clause-known c = rw c.text_at.ensures (sound_input _ _ c.requires.sound).0

pub again_of-requires : goal.again_of-requires
again_of-requires c = (sound_input _ _ c.requires.sound).1
