use Rattle.dioid_spectra.specs.Powers.{IsPower}
use Rattle.dioid_spectra.proofs.powers.power.Given as goal

abbrev pub invariant-loop-before : goal.invariant-loop-before
invariant-loop-before g l = IsPower g.D.Dioid l.matrix l.before l.power
