use Rattle.latest_certificates.proofs.ListedDues.{dues_are_listed, dues_are_one}
use Rattle.latest_certificates.proofs.laws.due_rows_are_listed.Goals as goal

pub returns-clause-listed : goal.returns-clause-listed
returns-clause-listed c = dues_are_listed

pub returns-clause-one : goal.returns-clause-one
returns-clause-one c = dues_are_one
