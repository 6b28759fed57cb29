use Rattle.std.proofs.Common.{◌≡◌, length}
use Rattle.dioid_spectra.proofs.nets.transitions_of.Given as goal

abbrev pub invariant-loop-row : goal.invariant-loop-row
invariant-loop-row l = length l.transitions.items ≡ l.row
