use Rattle.teg_report.proofs.ListRows.{list_of_rows}
use Rattle.teg_report.proofs.list_rows.lists_are_joined.Goals as goal

pub returns : goal.returns
returns c = list_of_rows
