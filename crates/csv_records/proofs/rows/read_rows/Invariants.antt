use Rattle.std.proofs.Common.{◌≡◌, ◌≤◌, ◌+◌, length}
use Rattle.csv_records.specs.Records.{records_of}
use Rattle.csv_records.specs.RowsOfRecords.{rows_from, rows_of}
use Rattle.csv_records.proofs.rows.read_rows.Given as goal

-- the rows so far, and those of the records that are left, are those of the file
abbrev pub invariant-loop-record : goal.invariant-loop-record
invariant-loop-record g l = record {
  same : rows_from g.F.RowFile.is_header (g.F.RowFile.row_of l.file) l.rows.items (l.number + 1) l.records ≡ rows_of g.F.RowFile.is_header (g.F.RowFile.row_of l.fn.file) (records_of l.fn.bytes);
  room : l.number + length l.records ≤ length l.fn.bytes;
  read : g.F.RowFile.has_read l.file l.rows.items;
  few : length l.rows.items ≤ l.number;
}

abbrev pub decreases-loop-record : goal.decreases-loop-record
decreases-loop-record g l = length l.records
