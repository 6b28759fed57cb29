use Rattle.std.specs.Prelude.{slice_index}
use Rattle.dioid_spectra.specs.MadeMatrices.{unit_at}
use Rattle.dioid_spectra.proofs.FilledTables.{AreMade}
use Rattle.dioid_spectra.proofs.made.choice.Given as goal

abbrev pub invariant-loop-place : goal.invariant-loop-place
invariant-loop-place g l = AreMade g.D.Dioid l.columns (λ i j. unit_at g.D.Dioid i (slice_index l.chosen j)) l.place l.entries.items
