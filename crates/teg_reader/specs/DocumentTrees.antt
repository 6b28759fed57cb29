-- What stands in a tree at a key, whatever the tree: where another kind stands there, a default.
use Rattle.std.specs.Prelude.{ℕ, Bool, false, List, [], ◌∷◌, map, pos, nat_le, ◌&&◌, Option, Some, None, find, bytes_eq, unwrap_or, option_map, option_and_then, is_some}
use Rattle.std.specs.Option.{option_map_or}
use Rattle.toml.specs.Data.{Data, integer, Items, no_items, item, Members, no_members, member, get, as_str, as_integer, as_array, as_table}
use Rattle.teg_reader.specs.declared.keys.Key.{Key}
use Rattle.teg_reader.specs.declared.keys.Key.TheVariants as key
use Rattle.teg_reader.specs.Keys.{key_text}

-- the items in order
abbrev pub listed_data : Items → List Data
listed_data no_items = []
listed_data (item d ds) = d ∷ listed_data ds

-- the keys in order
abbrev pub keys_of : Members → List (List ℕ)
keys_of no_members = []
keys_of (member k d ms) = k ∷ keys_of ms

-- the first, or else the second
abbrev pub or_else : {A : Type 0} → Option A → Option A → Option A
or_else (Some x) other = Some x
or_else None other = other

-- the value is a text
abbrev pub is_text : Data → Bool
is_text d = is_some (as_str d)

-- the value is an integer
abbrev pub is_integer : Data → Bool
is_integer d = is_some (as_integer d)

-- the value is a table
abbrev pub is_table : Data → Bool
is_table d = is_some (as_table d)

-- the elements of an array
abbrev pub elements_of : Data → Option (List Data)
elements_of d = option_map listed_data (as_array d)

-- the value is an integer from low to high
abbrev pub is_between : ℕ → ℕ → Data → Bool
is_between low high (integer (pos n)) = nat_le low n && nat_le n high
is_between low high _ = false

-- what stands at the key
unfoldable pub data_at : Key → Data → Option Data
data_at key d = get (key_text key) d

-- something stands at the key
unfoldable pub is_there : Key → Data → Bool
is_there key d = is_some (data_at key d)

-- the text, or the empty text
abbrev pub text_or_empty : Data → List ℕ
text_or_empty d = unwrap_or (as_str d) []

-- the text at the key, or the empty text
unfoldable pub text_at : Key → Data → List ℕ
text_at key d = option_map_or text_or_empty (data_at key d) []

-- the elements of the array at the key, or none
unfoldable pub array_at : Key → Data → List Data
array_at key d = option_map_or listed_data (option_and_then as_array (data_at key d)) []

-- one text, or the texts of an array, or none
unfoldable pub texts_of : Data → List (List ℕ)
texts_of d = option_map_or (λ s. s ∷ []) (as_str d) (option_map_or (map text_or_empty) (elements_of d) [])

-- the texts at the key: one text, or an array of texts
unfoldable pub texts_at : Key → Data → List (List ℕ)
texts_at key d = option_map_or texts_of (data_at key d) []

-- the number of an integer that is not negative, or 0
abbrev pub as_number : Data → ℕ
as_number (integer (pos n)) = n
as_number _ = 0

-- the number at the key, or 0
unfoldable pub number_at : Key → Data → ℕ
number_at key d = option_map_or as_number (data_at key d) 0

-- the names of the entries
abbrev pub entry_names : List Data → List (List ℕ)
entry_names entries = map (text_at key.Name) entries

-- the first of the entries that has this name
abbrev pub entry_named : List ℕ → List Data → Option Data
entry_named text entries = find (λ d. bytes_eq text (text_at key.Name d)) entries
