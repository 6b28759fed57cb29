use Rattle.latest_certificates.specs.SolvedRows.{IsNextTight}
use Rattle.latest_certificates.proofs.SolvedRows.{AreMarkedTo}
use Rattle.latest_certificates.proofs.solved_rows.mark_next.Given as goal

abbrev pub invariant-loop-index : goal.invariant-loop-index
invariant-loop-index l = AreMarkedTo l.told l.met (IsNextTight l.told l.number) l.index
