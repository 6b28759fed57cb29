use Rattle.std.proofs.Common.{length}
use Rattle.teg_model.specs.Datings.{listed_releases}
use Rattle.dating_certificates.specs.CheckedRows.{date_in_rows}
use Rattle.dating_certificates.proofs.RowWaits.{BegunTo}
use Rattle.dating_certificates.proofs.rows.begin_row.Given as goal

abbrev pub invariant-loop-index : goal.invariant-loop-index
invariant-loop-index l = BegunTo l.net (listed_releases l.net) (date_in_rows (length l.net.transitions) l.dates) l.number l.row l.index
