use Rattle.net_matrices.proofs.EntryTables.{AreEntries}
use Rattle.net_matrices.proofs.places.matrix_of_net.Given as goal

abbrev pub invariant-loop-place : goal.invariant-loop-place
invariant-loop-place l = AreEntries l.net l.width l.place l.entries.items
