-- The table that is written for a net: of the second version, without durations.
use Rattle.std.specs.Prelude.{ℕ, List, [], ◌∷◌, map, pos, codes, Option, Some, None, slice_get}
use Rattle.std.specs.Option.{option_map_or}
use Rattle.toml.specs.Data.{Data, string, integer, array, table, Members, no_members, member}
use Rattle.toml.specs.View.{items_of}
use Rattle.teg_net.specs.Nets.{NetLists}
use Rattle.teg_net.specs.declared.entries.Role.{Role}
use Rattle.teg_net.specs.declared.entries.Role.TheVariants.{Internal, Input, Output}
use Rattle.teg_net.specs.declared.entries.Again.{Again}
use Rattle.teg_net.specs.declared.entries.Transition.{Transition}
use Rattle.teg_net.specs.declared.entries.TransitionId.{TransitionId}
use Rattle.teg_net.specs.declared.entries.Place.{Place}
use Rattle.teg_net.specs.declared.entries.InputList.{InputList}
use Rattle.teg_reader.specs.declared.keys.Key.{Key}
use Rattle.teg_reader.specs.declared.keys.Key.TheVariants as key
use Rattle.teg_reader.specs.Keys.{key_text}

-- a number
abbrev pub number_data : ℕ → Data
number_data n = integer (pos n)

-- an array of numbers
abbrev pub numbers_data : List ℕ → Data
numbers_data ns = array (items_of (map number_data ns))

-- how a role is written
abbrev pub role_text : Role → List ℕ
role_text Internal = codes "internal"
role_text Input = codes "input"
role_text Output = codes "output"

-- the name of the transition of this number
abbrev pub name_of : List Transition → TransitionId → List ℕ
name_of transitions id = option_map_or (λ t. t.name) (slice_get transitions id.index) []

-- the table of a transition
unfoldable pub transition_entry : Transition → Data
transition_entry t = table (member (key_text key.Name) (string t.name) (member (key_text key.Role) (string (role_text t.role)) no_members))

-- the members of a table with the ready dates before them, where there are any
abbrev pub with_ready : List ℕ → Members → Members
with_ready [] ms = ms
with_ready (d ∷ ds) ms = member (key_text key.Ready) (numbers_data (d ∷ ds)) ms

-- the table of a place
unfoldable pub place_entry : List Transition → Place → Data
place_entry transitions p =
    table (member (key_text key.From) (string (name_of transitions p.from))
    (member (key_text key.Hold) (number_data p.hold)
    (member (key_text key.Name) (string p.name)
    (with_ready p.ready
    (member (key_text key.To) (string (name_of transitions p.to))
    (member (key_text key.Tokens) (number_data p.tokens) no_members))))))

-- the members of a table with `every` and `gap` before them, where the list goes on
abbrev pub with_again : Option Again → Members → Members
with_again None ms = ms
with_again (Some a) ms = member (key_text key.Every) (number_data a.every) (member (key_text key.Gap) (number_data a.gap) ms)

-- the table of an input list
unfoldable pub input_entry : List Transition → InputList → Data
input_entry transitions l =
    table (member (key_text key.Dates) (numbers_data l.dates)
    (with_again l.again
    (member (key_text key.Transition) (string (name_of transitions l.transition)) no_members)))

-- the members of a file with the entries of a section before them, where there are any
abbrev pub with_entries : Key → List Data → Members → Members
with_entries key [] ms = ms
with_entries key (d ∷ ds) ms = member (key_text key) (array (items_of (d ∷ ds))) ms

-- the table of a net: its lists as arrays of tables, the keys of each table in the order of their bytes
unfoldable pub migrated : NetLists → Members
migrated net =
    with_entries key.Input (map (input_entry net.transitions) net.inputs)
    (with_entries key.Place (map (place_entry net.transitions) net.places)
    (with_entries key.Transition (map transition_entry net.transitions)
    (member (key_text key.Version) (number_data 2) no_members)))
