use Rattle.pace_laws.proofs.Tight.{best_are_tight}
use Rattle.dioid_spectra.proofs.MatrixNetLaws.{inner_place, run_has_circuit}
use Rattle.dioid_spectra.proofs.spectra.tight_potentials.Goals as goal

pub last_round-requires-clause-circuit : goal.last_round-requires-clause-circuit
last_round-requires-clause-circuit c = inner_place c.args.net.now c.args.parts.now c.rules.ensures c.requires.parts c.requires.one c.requires.place

pub unreachable-requires : goal.unreachable-requires
unreachable-requires c = run_has_circuit c.args.net.now c.args.parts.now.part_of 0 (rw c.in-NoCircuit.is at c.in_ok-last_round.ensures.run)

pub returns-clause-tight : goal.returns-clause-tight
returns-clause-tight c =
    best_are_tight c.args.net.now c.args.parts.now.part_of 0 c.in-Best.ratio c.in-Best.circuit.places.items c.in-Best.potentials.items
    (rw c.in-Best.is at c.in_ok-last_round.ensures.best)
