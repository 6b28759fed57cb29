use Rattle.std.proofs.Common.{map}
use Rattle.std.specs.Map.Iter.{deref}
use Rattle.teg_reader.specs.Sound.{is_sound_input}
use Rattle.teg_reader.proofs.TreeLemmas.{pushed_of, entry_passes}
use Rattle.teg_reader.specs.NetOf.{input_of}
use Rattle.teg_reader.proofs.entries.make_inputs.Goals as goal

pub make_input-requires-clause-sound : goal.make_input-requires-clause-sound
make_input-requires-clause-sound c = entry_passes (is_sound_input
    (map deref c.args.names.now.keys)) c.args.entries.now c.loop-entry.entry-index c.entry-item.result c.loop-entry-test.true c.entry-item.is c.requires.sound

pub loop-entry-preserved : goal.loop-entry-preserved
loop-entry-preserved c = pushed_of (input_of (map deref c.args.names.now.keys)) c.args.entries.now c.loop-entry.entry-index
    c.entry-item.result _ _ _ c.loop-entry-test.true c.entry-item.is c.loop-entry.invariant c.in_ok-make_input.ensures c.in_ok-push.ensures.items
