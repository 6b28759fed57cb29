use Rattle.std.proofs.Common.{◌≡◌, None}
use Rattle.toml.specs.View.{view}
use Rattle.teg_reader.specs.declared.keys.Key.TheVariants as key
use Rattle.teg_reader.specs.DocumentTrees.{array_at, entry_names}
use Rattle.teg_reader.specs.PassWalks.{finding}
use Rattle.teg_reader.specs.UnknownTransitions.{unknown_transition}
use Rattle.teg_reader.proofs.ClearLemmas.{good_entries, transitions_named, places_named}
use Rattle.teg_reader.proofs.GraphLemmas.{owners_known, owners_good}
use Rattle.teg_reader.proofs.reader.look_at_graph.Goals as goal

pub look_at_all_ends-requires : goal.look_at_all_ends-requires
look_at_all_ends-requires c = rw c.list_at-places.ensures (places_named (view c.args.top.now) (good_entries (view c.args.top.now) c.requires.good))

pub look_for_entered_inputs-requires-clause-good : goal.look_for_entered_inputs-requires-clause-good
look_for_entered_inputs-requires-clause-good c = rw c.list_at-places.ensures (places_named (view c.args.top.now) (good_entries (view c.args.top.now) c.requires.good))

pub look_for_bad_inputs-requires-clause-owners : goal.look_for_bad_inputs-requires-clause-owners
look_for_bad_inputs-requires-clause-owners c =
    let top = view c.args.top.now in
    let good = good_entries top c.requires.good in
    let known : finding (unknown_transition (entry_names (array_at key.Transition (view c.args.top.now)))) (view c.args.top.now) ≡ None = rw (← c.requires.names) c.in_ok-look_at_all.ensures in
    rw c.list_at.ensures (owners_good (array_at key.Transition top) (array_at key.Input top) (transitions_named top good) (owners_known top known))
