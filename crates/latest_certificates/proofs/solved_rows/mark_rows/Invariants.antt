use Rattle.latest_certificates.specs.SolvedRows.{AreMarked}
use Rattle.latest_certificates.proofs.SolvedRows.{ByRows}
use Rattle.latest_certificates.proofs.solved_rows.mark_rows.Given as goal

abbrev pub invariant-loop-row : goal.invariant-loop-row
invariant-loop-row l = AreMarked l.told l.met (ByRows l.told l.rows l.number l.row-index)
