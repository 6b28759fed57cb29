use Rattle.dating_certificates.proofs.FirstRows.{first_rows}
use Rattle.dating_certificates.proofs.laws.first_rows_are_least.Goals as goal

pub returns : goal.returns
returns c = first_rows
