-- The net of a tree: its entries in order.
use Rattle.std.specs.Prelude.{ℕ, if◌then◌else◌, List, map, bytes_eq, codes}
use Rattle.std.specs.List.{position_or_len}
use Rattle.toml.specs.Data.{Data}
use Rattle.teg_net.specs.Nets.{NetLists}
use Rattle.teg_net.specs.declared.entries.Role.{Role}
use Rattle.teg_net.specs.declared.entries.Role.TheVariants as role
use Rattle.teg_net.specs.declared.entries.Transition.{Transition}
use Rattle.teg_net.specs.declared.entries.TransitionId.{TransitionId}
use Rattle.teg_net.specs.declared.entries.Place.{Place}
use Rattle.teg_net.specs.declared.entries.InputList.{InputList}
use Rattle.teg_reader.specs.declared.keys.Key.TheVariants as key
use Rattle.teg_reader.specs.DocumentTrees.{text_at, array_at, number_at, entry_names}
use Rattle.teg_reader.specs.EventGraphs.{end_at}
use Rattle.teg_reader.specs.InputLists.{entry_dates, entry_again}
use Rattle.teg_reader.specs.ReadyDatePass.{ready_of}
use Rattle.teg_reader.specs.Holds.{hold_with_duration}

-- the role of this text; without one a transition is internal
unfoldable pub role_of : List ℕ → Role
role_of text = if bytes_eq text (codes "input") then role.Input else if bytes_eq text (codes "output") then role.Output else role.Internal

-- the transition of an entry
unfoldable pub entry_transition : Data → Transition
entry_transition d = record { name = text_at key.Name d; role = role_of (text_at key.Role d) }

-- the number of the first of the names that is this text
unfoldable pub id_of : List (List ℕ) → List ℕ → TransitionId
id_of names text = record { index = position_or_len (bytes_eq text) names }

-- the place of an entry: its hold and the duration of its upstream transition, where absent 0, its tokens, and
-- without ready dates all tokens are ready at 0
unfoldable pub entry_place : List Data → Data → Place
entry_place transitions d = record {
  name = text_at key.Name d;
  from = id_of (entry_names transitions) (end_at key.From d);
  to = id_of (entry_names transitions) (end_at key.To d);
  hold = hold_with_duration transitions d;
  tokens = number_at key.Tokens d;
  ready = ready_of d;
}

-- the input list of an entry
unfoldable pub input_of : List (List ℕ) → Data → InputList
input_of names d = record { transition = id_of names (text_at key.Transition d); dates = entry_dates d; again = entry_again d }

-- the net of the entries in order
unfoldable pub net_of : Data → NetLists
net_of top = record {
  transitions = map entry_transition (array_at key.Transition top);
  places = map (entry_place (array_at key.Transition top)) (array_at key.Place top);
  inputs = map (input_of (entry_names (array_at key.Transition top))) (array_at key.Input top);
}
