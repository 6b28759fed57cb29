use Rattle.forever_laws.proofs.OneColumn.{columns}
use Rattle.forever_laws.proofs.laws.columns_exist.Goals as goal

pub returns : goal.returns
returns c = columns c.walk_times_settle.ensures
