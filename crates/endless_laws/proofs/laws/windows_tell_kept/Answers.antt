use Rattle.endless_laws.proofs.KeptRows.{windows_tell, rows_tell}
use Rattle.endless_laws.proofs.laws.windows_tell_kept.Goals as goal

pub returns : goal.returns
returns c = record { windows = windows_tell; rows = rows_tell }
