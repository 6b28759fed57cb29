-- The dates of an entry, as numbers.
use Rattle.std.proofs.Common.{◌≡◌, ℕ, ◌-◌, ◌<◌, ◌≤◌, List, [], ◌∷◌, map, drop, length, get_or, None, slice_index, refl, ap, ◌∙◌, arith}
use Rattle.std.proofs.lemmas.List.{length-map, length-drop, get_or-map}
use Rattle.toml.specs.declared.value.Value.{Value}
use Rattle.toml.specs.View.{view}
use Rattle.teg_reader.specs.DocumentTrees.{as_number}
use Rattle.teg_reader.specs.InputLists.{first_fall}

pub number_at_index : (vs : List Value) (i : ℕ) (d : Value) → i < length vs → slice_index (map as_number (map view vs)) i ≡ as_number (view (get_or vs i d))
number_at_index vs i d lt =
    let there : i < length (map view vs) = rw length-map lt in
    get_or-map as_number (map view vs) i (view d) 0 there ∙ ap as_number (get_or-map view vs i d (view d) lt)

short : (position : ℕ) (dates : List ℕ) → length dates ≤ 1 → first_fall position dates ≡ None
short position [] le = refl
short position (a ∷ []) le = refl
short position (a ∷ b ∷ dates) le = absurd (omega arith)

-- past the last date there is no fall
pub no_fall_left : (vs : List Value) (i position : ℕ) → length vs ≤ i → first_fall position (map as_number (map view (drop (i - 1) vs))) ≡ None
no_fall_left vs i position le =
    let left : length (drop (i - 1) vs) ≤ 1 = rw (length-drop (i - 1) vs) (omega arith) in
    short position (map as_number (map view (drop (i - 1) vs))) (rw (length-map, length-map) left)
