use Rattle.dating_certificates.proofs.LeastRows.{tight_first}
use Rattle.dating_certificates.proofs.laws.tight_rows_are_first_rows.Goals as goal

pub returns : goal.returns
returns c = tight_first
