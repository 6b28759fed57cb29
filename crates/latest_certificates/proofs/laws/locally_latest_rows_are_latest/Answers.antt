use Rattle.latest_certificates.proofs.SolvedRows.{local_latest}
use Rattle.latest_certificates.proofs.laws.locally_latest_rows_are_latest.Goals as goal

pub returns : goal.returns
returns c = local_latest
