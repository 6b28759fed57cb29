use Rattle.dioid_spectra.proofs.FilledTables.{AreMade}
use Rattle.dioid_spectra.proofs.made.zero.Given as goal

abbrev pub invariant-loop-place : goal.invariant-loop-place
invariant-loop-place g l = AreMade g.D.Dioid l.columns (λ _ _. g.D.Dioid.zero) l._place l.entries.items
