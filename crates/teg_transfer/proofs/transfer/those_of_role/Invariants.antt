use Rattle.std.proofs.Common.{◌≡◌, map}
use Rattle.std.specs.List.{filter, range_with_len}
use Rattle.teg_transfer.specs.TimesFromInputs.{has_transition_role, transition_id}
use Rattle.teg_transfer.proofs.transfer.those_of_role.Given as goal

abbrev pub invariant-loop-index : goal.invariant-loop-index
invariant-loop-index l = l.those.items ≡ filter (has_transition_role l.net l.role) (map transition_id (range_with_len 0 l.index))
