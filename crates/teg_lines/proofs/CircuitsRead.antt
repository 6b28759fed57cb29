-- The places of a circuit without tokens are read back from its line.
use Rattle.std.proofs.Common.{List, [], ◌∷◌, refl}
use Rattle.teg_net.specs.declared.entries.PlaceId.{PlaceId}
use Rattle.teg_net.specs.Circuits.{AreInRange}
use Rattle.teg_net.specs.Nets.{NetLists, IsNet}
use Rattle.teg_text.proofs.NamesRead.{circuits}
use Rattle.teg_text.proofs.Telling.{IsReadFrom}
use Rattle.teg_lines.specs.CircuitLines.{token_free_in, token_free_line}

pub circuit_back : (net : NetLists) (circuit : List PlaceId) → IsNet net → AreInRange net circuit → IsReadFrom (token_free_in net) (token_free_line net circuit ∷ []) circuit
circuit_back net circuit rules h =
    let places = circuits net rules in
    record { words = rw (places.passes circuit h) refl; back = places.back circuit h }
