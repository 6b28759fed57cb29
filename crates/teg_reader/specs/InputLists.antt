-- The pass on faulty input lists.
use Rattle.std.specs.Prelude.{ℕ, ◌+◌, ◌-◌, Bool, false, ◌||◌, nat_lt, if◌then◌else◌, List, [], ◌∷◌, map, length, Option, Some, None, option_map, slice_index}
use Rattle.toml.specs.Data.{Data}
use Rattle.teg_net.specs.Names.{is_name}
use Rattle.teg_net.specs.declared.entries.Again.{Again}
use Rattle.teg_reader.specs.declared.keys.Key.TheVariants as key
use Rattle.teg_reader.specs.declared.refusals.ReadRefusal.{ReadRefusal}
use Rattle.teg_reader.specs.declared.refusals.ReadRefusal.TheVariants as refusal
use Rattle.teg_reader.specs.DocumentTrees.{data_at, text_at, array_at, number_at, as_number, or_else}
use Rattle.teg_reader.specs.EventGraphs.{is_input_named}

-- the text that names the entry's transition is a name
abbrev pub has_good_owner : Data → Bool
has_good_owner d = is_name (text_at key.Transition d)

-- the dates of the entry
unfoldable pub entry_dates : Data → List ℕ
entry_dates d = map as_number (array_at key.Dates d)

-- how the entry goes on past its list
unfoldable pub entry_again : Data → Option Again
entry_again d = option_map (λ every. record { every = as_number every; gap = number_at key.Gap d }) (data_at key.Every d)

-- the position of the first date that is less than the one before it; the second date has this position
abbrev pub first_fall : ℕ → List ℕ → Option ℕ
first_fall position [] = None
first_fall position (a ∷ []) = None
first_fall position (a ∷ b ∷ dates) = if nat_lt b a then Some position else first_fall (position + 1) (b ∷ dates)

-- the list cannot go on: it is shorter than `every`, or the first date past it is less than its last
abbrev pub is_bad_end : List ℕ → Option Again → Bool
is_bad_end dates None = false
is_bad_end dates (Some a) =
    nat_lt (length dates) a.every
    || nat_lt (slice_index dates (length dates - a.every) + a.gap) (slice_index dates (length dates - 1))

-- the position of the first fault of a list that belongs to an input
unfoldable pub bad_date : List ℕ → Option Again → Option ℕ
bad_date dates again = or_else (first_fall 2 dates) (if is_bad_end dates again then Some (length dates + 1) else None)

-- the position of the first fault of the entry: 0 where its transition is no input
unfoldable pub fault_of : List Data → Data → Option ℕ
fault_of transitions d =
    if is_input_named transitions (text_at key.Transition d) then bad_date (entry_dates d) (entry_again d) else Some 0

-- the entry is faulty
unfoldable pub bad_input : List Data → Data → Option ReadRefusal
bad_input transitions d = option_map (λ p. refusal.BadInput (text_at key.Transition d) p) (fault_of transitions d)
