use Rattle.std.proofs.Common.{ℕ, ◌<◌, ◌+◌}
use Rattle.dioid.specs.Dates.{IsAtMostDate}
use Rattle.dating_certificates.specs.ToldRows.{date_told}
use Rattle.latest_certificates.proofs.solved_rows.keeps_next.Given as goal

abbrev pub invariant-loop-index : goal.invariant-loop-index
invariant-loop-index l = (t : ℕ) → t < l.index → IsAtMostDate (date_told l.told t l.number) (date_told l.told t (l.number + 1))
