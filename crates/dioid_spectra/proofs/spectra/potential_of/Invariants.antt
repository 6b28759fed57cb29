use Rattle.std.proofs.Common.{◌≡◌, drop}
use Rattle.teg_net.specs.Certificates.{potential_at}
use Rattle.dioid_spectra.proofs.spectra.potential_of.Given as goal

abbrev pub invariant-loop-potential : goal.invariant-loop-potential
invariant-loop-potential l = potential_at l.potentials l.row ≡ potential_at (drop l.potential-index l.potentials) l.row
