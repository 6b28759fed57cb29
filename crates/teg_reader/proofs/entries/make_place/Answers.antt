use Rattle.std.proofs.Common.{arith, map}
use Rattle.std.specs.Map.Iter.{deref}
use Rattle.toml.specs.View.{view}
use Rattle.teg_reader.proofs.SoundLemmas.{sound_place}
use Rattle.teg_reader.proofs.entries.make_place.Goals as goal

pub copy_name-requires : goal.copy_name-requires
copy_name-requires c = rw c.text_at.ensures (sound_place _ _ c.requires.sound).name

pub number_of-requires-clause-known : goal.number_of-requires-clause-known
number_of-requires-clause-known c = rw c.end_at.ensures (sound_place _ _ c.requires.sound).from

pub number_of-requires-2-clause-known : goal.number_of-requires-2-clause-known
number_of-requires-2-clause-known c = rw c.end_at-2.ensures (sound_place _ _ c.requires.sound).to

pub overflow_cast-result : goal.overflow_cast-result
overflow_cast-result c =
    let place = sound_place (map deref c.args.names.now.keys) (view c.args.entry.now) c.requires.sound in
    omega (arith, place.tokens, c.number_at.ensures.value)
