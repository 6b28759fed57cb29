use Rattle.std.proofs.Common.{◌≡◌, ◌++◌, ◌∷◌, take, string_bytes}
use Rattle.std.specs.List.{flat_map}
use Rattle.teg_text.specs.WordsOfNames.{name_of_place}
use Rattle.teg_text.proofs.names.push_places.Given as goal

abbrev pub invariant-loop-id : goal.invariant-loop-id
invariant-loop-id l =
    string_bytes l.text ≡ string_bytes l.initial.text ++ flat_map (λ id. 32 ∷ name_of_place l.net id) (take l.id-index l.circuit.places.items)
