-- The numbers of a net's transitions and places, in order.
use Rattle.std.specs.Prelude.{ℕ, ◌-◌, List, length, map}
use Rattle.std.specs.List.{range_with_len}
use Rattle.teg_net.specs.declared.entries.PlaceId.{PlaceId}
use Rattle.teg_net.specs.declared.entries.TransitionId.{TransitionId}
use Rattle.teg_net.specs.Nets.{NetLists}

-- the transition of this number
abbrev pub transition_number : ℕ → TransitionId
transition_number i = record { index = i }

-- the place of this number
abbrev pub place_number : ℕ → PlaceId
place_number i = record { index = i }

-- the transitions from this number on, up to that one
abbrev pub transition_ids_between : ℕ → ℕ → List TransitionId
transition_ids_between first end = map transition_number (range_with_len first (end - first))

-- the places from this number on, up to that one
abbrev pub place_ids_between : ℕ → ℕ → List PlaceId
place_ids_between first end = map place_number (range_with_len first (end - first))

-- all transitions of the net
abbrev pub transition_ids_of : NetLists → List TransitionId
transition_ids_of net = transition_ids_between 0 (length net.transitions)

-- all places of the net
abbrev pub place_ids_of : NetLists → List PlaceId
place_ids_of net = place_ids_between 0 (length net.places)
