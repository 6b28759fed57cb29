use Rattle.teg_forever.specs.Divisions.{AreFirstsTo}
use Rattle.teg_forever.proofs.divisions.firsts_of.Given as goal

abbrev pub invariant-loop-place : goal.invariant-loop-place
invariant-loop-place l = AreFirstsTo l.rows l.place l.firsts.items
