use Rattle.std.proofs.Common.{◌≡◌, map, drop}
use Rattle.toml.specs.View.{view}
use Rattle.teg_reader.specs.PassWalks.{first_of_entries}
use Rattle.teg_reader.specs.InputLists.{bad_input}
use Rattle.teg_reader.proofs.input_lists.look_for_bad_inputs.Given as goal

abbrev pub invariant-loop-entry : goal.invariant-loop-entry
invariant-loop-entry l =
    first_of_entries (bad_input (map view l.transitions)) (map view (drop l.entry-index l.inputs)) ≡ first_of_entries (bad_input (map view l.transitions)) (map view l.inputs)
