use Rattle.dioid_matrix.specs.Tables.{entry_of}
use Rattle.dioid_spectra.proofs.FilledTables.{AreMade}
use Rattle.dioid_spectra.proofs.made.transpose.Given as goal

abbrev pub invariant-loop-place : goal.invariant-loop-place
invariant-loop-place g l = AreMade g.D.Dioid l.columns (λ i j. entry_of g.D.Dioid l.matrix j i) l.place l.entries.items
