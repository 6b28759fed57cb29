-- Working definitions of what the makers of a net's entries ask of them; entries without a finding have it.
use Rattle.std.specs.Prelude.{ℕ, Bool, true, ◌&&◌, nat_le, List}
use Rattle.std.specs.Option.{option_map_or}
use Rattle.toml.specs.Data.{Data}
use Rattle.teg_net.specs.Limits.{most_place_tokens, greatest_every}
use Rattle.teg_reader.specs.declared.keys.Key.TheVariants as key
use Rattle.teg_reader.specs.TextLists.{is_among}
use Rattle.teg_reader.specs.DocumentTrees.{data_at, text_at, number_at, as_number}
use Rattle.teg_reader.specs.BadNames.{has_good_name}
use Rattle.teg_reader.specs.EventGraphs.{end_at}

-- the place has a name and two ends among the names, and few tokens
unfoldable pub is_sound_place : List (List ℕ) → Data → Bool
is_sound_place names d =
    (has_good_name d && nat_le (number_at key.Tokens d) most_place_tokens)
    && (is_among names (end_at key.From d) && is_among names (end_at key.To d))

-- `every`, if it is there, is small
unfoldable pub has_small_every : Data → Bool
has_small_every d = option_map_or (λ every. nat_le (as_number every) greatest_every) (data_at key.Every d) true

-- the input list has its transition among the names, and goes on after few firings
unfoldable pub is_sound_input : List (List ℕ) → Data → Bool
is_sound_input names d = is_among names (text_at key.Transition d) && has_small_every d
