-- The seventh pass: values and counts out of their ranges.
use Rattle.std.specs.Prelude.{ℕ, Bool, true, ◌&&◌, ◌||◌, nat_le, List, length, option_map, option_and_then, bytes_eq, codes}
use Rattle.std.specs.List.{list_all}
use Rattle.std.specs.Option.{option_map_or}
use Rattle.toml.specs.Data.{Data, as_str}
use Rattle.teg_net.specs.Limits.{most_transitions, most_places, greatest_hold, most_place_tokens, most_input_dates, greatest_input_date, greatest_every}
use Rattle.teg_reader.specs.declared.keys.Key.{Key}
use Rattle.teg_reader.specs.declared.keys.Key.TheVariants as key
use Rattle.teg_reader.specs.declared.refusals.Section.{Section}
use Rattle.teg_reader.specs.declared.refusals.Section.TheVariants as section
use Rattle.teg_reader.specs.declared.refusals.ReadRefusal.TheVariants as refusal
use Rattle.teg_reader.specs.Fields.{fields_of}
use Rattle.teg_reader.specs.DocumentTrees.{data_at, array_at, is_between}
use Rattle.teg_reader.specs.WrongKinds.{first_failing}
use Rattle.teg_reader.specs.PassWalks.{Look}

-- the text is a role
abbrev pub is_role : List ℕ → Bool
is_role text = (bytes_eq text (codes "internal") || bytes_eq text (codes "input")) || bytes_eq text (codes "output")

-- what stands at the key, if anything, is an integer from low to high
abbrev pub is_between_at : Key → ℕ → ℕ → Data → Bool
is_between_at key low high d = option_map_or (is_between low high) (data_at key d) true

-- the text at the key, if there is one, is a role
abbrev pub has_role_text : Data → Bool
has_role_text d = option_map_or is_role (option_and_then as_str (data_at key.Role d)) true

-- the dates are few and each keeps its limit
abbrev pub has_dates_in_range : Data → Bool
has_dates_in_range d = nat_le (length (array_at key.Dates d)) most_input_dates && list_all (is_between 0 greatest_input_date) (array_at key.Dates d)

-- what stands at the key of a table of this section keeps its range
unfoldable pub in_range : Section → Data → Key → Bool
in_range section.Top top key.Version = is_between_at key.Version 1 2 top
in_range section.Top top key.Transition = nat_le (length (array_at key.Transition top)) most_transitions
in_range section.Top top key.Place = nat_le (length (array_at key.Place top)) most_places
in_range section.Transition d key.Role = has_role_text d
in_range section.Transition d key.Duration = is_between_at key.Duration 0 greatest_hold d
in_range section.Place d key.Hold = is_between_at key.Hold 0 greatest_hold d
in_range section.Place d key.Tokens = is_between_at key.Tokens 0 most_place_tokens d
in_range section.Place d key.Ready = list_all (is_between 0 greatest_input_date) (array_at key.Ready d)
in_range section.Input d key.Dates = has_dates_in_range d
in_range section.Input d key.Every = is_between_at key.Every 1 greatest_every d
in_range section.Input d key.Gap = is_between_at key.Gap 0 greatest_input_date d
in_range _ _ _ = true

-- the first key whose value is out of its range
unfoldable pub out_of_range : Look
out_of_range spot d = option_map (λ k. refusal.OutOfRange spot k) (first_failing (λ f. in_range spot.section d f.0) (fields_of spot.section))
