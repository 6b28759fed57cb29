use Rattle.std.proofs.Common.{◌≡◌, map}
use Rattle.std.specs.List.{range_with_len}
use Rattle.dating_certificates.specs.CheckedRows.{date_in_rows}
use Rattle.forever_check.proofs.stored.rows_of.Given as goal

abbrev pub invariant-loop-transition : goal.invariant-loop-transition
invariant-loop-transition l =
    map (λ r. r.items) l.rows.items ≡ map (λ t. map (date_in_rows l.width l.dates t) (range_with_len 1 l.count)) (range_with_len 0 l.transition)
