-- The line of a circuit without tokens, for whose sake a net is not live, and how it is read back.
use Rattle.std.specs.Prelude.{ℕ, List, ◌++◌, codes, drop, map}
use Rattle.teg_net.specs.declared.entries.PlaceId.{PlaceId}
use Rattle.teg_net.specs.Nets.{NetLists}
use Rattle.teg_text.specs.Lines.{phrase}
use Rattle.teg_text.specs.WordReading.{line_at}
use Rattle.teg_text.specs.WordsOfNames.{name_of_place, place_named}

-- a circuit without tokens, as the names of its places in order
abbrev pub token_free_line : NetLists → List PlaceId → List (List ℕ)
token_free_line net circuit = phrase (codes "refused: token-free circuit") ++ map (name_of_place net) circuit

-- its places
abbrev pub token_free_in : NetLists → List (List (List ℕ)) → List PlaceId
token_free_in net lines = map (place_named net) (drop 3 (line_at 0 lines))
