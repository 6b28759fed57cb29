use Rattle.std.proofs.Common.{ℕ, ◌<◌, get_or}
use Rattle.dioid.specs.declared.dates.Date.TheVariants.{Early}
use Rattle.dioid_spectra.specs.MatrixNets.{IsPlain}
use Rattle.dioid_spectra.proofs.nets.check_entries.Given as goal

abbrev pub invariant-loop-place : goal.invariant-loop-place
invariant-loop-place l = (k : ℕ) → k < l.place → IsPlain (get_or l.a.entries k Early)
