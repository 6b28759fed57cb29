use Rattle.std.proofs.Common.{◌≡◌, map}
use Rattle.std.specs.List.{range_with_len}
use Rattle.dating_certificates.specs.CheckedRows.{date_in_rows}
use Rattle.forever_check.proofs.stored.row_of.Given as goal

abbrev pub invariant-loop-before : goal.invariant-loop-before
invariant-loop-before l = l.row.items ≡ map (date_in_rows l.width l.dates l.transition) (range_with_len 1 l.before)
