use Rattle.latest_certificates.specs.SolvedRows.{AreMarked}
use Rattle.latest_certificates.proofs.SolvedRows.{ByPlaces}
use Rattle.latest_certificates.proofs.solved_rows.mark_places.Given as goal

abbrev pub invariant-loop-index : goal.invariant-loop-index
invariant-loop-index l = AreMarked l.told l.met (ByPlaces l.told l.number l.index)
