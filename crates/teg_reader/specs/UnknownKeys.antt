-- The second pass: keys that a table does not list.
use Rattle.std.specs.Prelude.{ℕ, Bool, false, not, List, [], Option, option_map, find, bytes_eq}
use Rattle.std.specs.Option.{option_map_or}
use Rattle.std.specs.List.{list_any, list_all, filter}
use Rattle.std.specs.Ordering.{nat_cmp, is_gt}
use Rattle.std.specs.Cmp.Lexicographic.{slice_cmp}
use Rattle.toml.specs.Data.{Data, as_table}
use Rattle.teg_reader.specs.declared.fields.Field.{Field}
use Rattle.teg_reader.specs.declared.keys.Key.TheVariants as key
use Rattle.teg_reader.specs.declared.refusals.ReadRefusal.TheVariants as refusal
use Rattle.teg_reader.specs.Keys.{key_text}
use Rattle.teg_reader.specs.Fields.{listed_fields}
use Rattle.teg_reader.specs.DocumentTrees.{keys_of, data_at, is_between}
use Rattle.teg_reader.specs.PassWalks.{Look}

-- the text is the key of one of the fields
unfoldable pub is_field : List Field → List ℕ → Bool
is_field fields text = list_any (λ f. bytes_eq text (key_text f.0)) fields

-- byte by byte, the first text does not come after the second
abbrev pub is_at_most : List ℕ → List ℕ → Bool
is_at_most a b = not (is_gt (slice_cmp nat_cmp a b))

-- the text that comes after none of the texts
unfoldable pub least_text : List (List ℕ) → Option (List ℕ)
least_text texts = find (λ a. list_all (is_at_most a) texts) texts

-- the keys of a table that are none of the fields
unfoldable pub unlisted_keys : List Field → Data → List (List ℕ)
unlisted_keys fields d = option_map_or (λ ms. filter (λ k. not (is_field fields k)) (keys_of ms)) (as_table d) []

-- the file says that it is of the second version
unfoldable pub is_second : Data → Bool
is_second top = option_map_or (is_between 2 2) (data_at key.Version top) false

-- the least of the keys that the section does not list
unfoldable pub unknown_key : Bool → Look
unknown_key second spot d = option_map (λ k. refusal.UnknownKey spot k) (least_text (unlisted_keys (listed_fields second spot.section) d))
