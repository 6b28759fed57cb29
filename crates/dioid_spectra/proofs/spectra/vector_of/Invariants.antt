use Rattle.std.proofs.Common.{◌≡◌, ℕ, ◌<◌, get_or, length, pos}
use Rattle.teg_net.specs.Certificates.{potential_at}
use Rattle.dioid_spectra.proofs.spectra.vector_of.Given as goal

abbrev pub invariant-loop-row : goal.invariant-loop-row
invariant-loop-row l = (length l.vector.items ≡ l.row) × ((i : ℕ) → i < l.row → get_or l.vector.items i (pos 0) ≡ potential_at l.potentials i)
