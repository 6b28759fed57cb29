-- Refusals of files.
use Rattle.std.proofs.Common.{List}
use Rattle.teg_net.specs.declared.entries.PlaceId.{PlaceId}
use Rattle.teg_net.specs.Nets.{NetLists}
use Rattle.teg_net.specs.Circuits.{IsTokenFree, AreInRange}
use Rattle.teg_net.proofs.PathLaws.{IsPathBetween-in_range}

-- places of a circuit without tokens are places of the net
pub circuit_in_range : (net : NetLists) (ps : List PlaceId) → IsTokenFree net ps → AreInRange net ps
circuit_in_range net ps h = IsPathBetween-in_range net ps h.circuit.closed.0 h.circuit.closed.0 h.circuit.closed.1
