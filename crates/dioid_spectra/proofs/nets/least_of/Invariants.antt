use Rattle.dioid_spectra.specs.MatrixNets.{IsLeastNumber}
use Rattle.dioid_spectra.proofs.nets.least_of.Given as goal

abbrev pub invariant-loop-place : goal.invariant-loop-place
invariant-loop-place l = IsLeastNumber l.a.entries l.place l.low
