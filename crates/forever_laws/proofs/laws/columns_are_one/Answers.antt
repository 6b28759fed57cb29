use Rattle.forever_laws.proofs.OneColumn.{columns_are_one, rows_fit_alike, one_length}
use Rattle.forever_laws.proofs.laws.columns_are_one.Goals as goal

pub returns : goal.returns
returns c = record { columns = columns_are_one; fit = rows_fit_alike; length = one_length }
