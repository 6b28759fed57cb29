use Rattle.std.proofs.Common.{◌≡◌, map, take}
use Rattle.teg_net.specs.Parts.{to_of}
use Rattle.dioid_spectra.proofs.spectra.rows_of.Given as goal

abbrev pub invariant-loop-id : goal.invariant-loop-id
invariant-loop-id l = l.rows.items ≡ map (to_of l.net) (take l.id-index l.circuit.places.items)
