-- Working definitions of a table that is filled key by key.
use Rattle.std.specs.Prelude.{ℕ, List, [], ◌∷◌}
use Rattle.std.specs.Ordering.{nat_cmp, match_ordering}
use Rattle.std.specs.Cmp.Lexicographic.{slice_cmp}
use Rattle.toml.specs.Data.{Data, array, Members, no_members, member}
use Rattle.toml.specs.View.{items_of}
use Rattle.teg_reader.specs.declared.keys.Key.{Key}
use Rattle.teg_reader.specs.Keys.{key_text}

-- the members with this value at the key, in the order of the keys' bytes
abbrev pub with_member : List ℕ → Data → Members → Members
with_member k d no_members = member k d no_members
with_member k d (member l e ms) =
    match_ordering (slice_cmp nat_cmp k l) (member k d (member l e ms)) (member l d ms) (member l e (with_member k d ms))

-- the members with this list at the key, where there is anything in it
abbrev pub with_list : Key → List Data → Members → Members
with_list key [] ms = ms
with_list key (d ∷ ds) ms = with_member (key_text key) (array (items_of (d ∷ ds))) ms
