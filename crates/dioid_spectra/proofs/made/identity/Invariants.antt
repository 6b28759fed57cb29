use Rattle.dioid_spectra.specs.MadeMatrices.{unit_at}
use Rattle.dioid_spectra.proofs.FilledTables.{AreMade}
use Rattle.dioid_spectra.proofs.made.identity.Given as goal

abbrev pub invariant-loop-place : goal.invariant-loop-place
invariant-loop-place g l = AreMade g.D.Dioid l.size (unit_at g.D.Dioid) l.place l.entries.items
