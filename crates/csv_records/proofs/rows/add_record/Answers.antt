use Rattle.std.proofs.Common.{rules}
use Rattle.std.proofs.lemmas.Result.{err_from_is_err_and}
use Rattle.csv_records.proofs.rows.add_record.Goals.{else-number-eq1-via-then-number-eq1+else-is_header, else-number-eq1-via-else-number-eq1}
use Rattle.csv_records.proofs.rows.add_record.Goals as goal

pub returns-in_err-row-clause-refused : goal.returns-in_err-row-clause-refused
returns-in_err-row-clause-refused g c =
    let p = err_from_is_err_and c.from_residual.result c.from_residual.ensures.1 in
    let refused = rw c.as_slice.ensures.value at c.in_err-row.ensures.refused in
    rw (p.1, p.2) (λ other.
    let is = refused other in
    elim c.else-number-eq1.branch [
      | else-number-eq1-via-then-number-eq1+else-is_header w ↦ search rules
      | else-number-eq1-via-else-number-eq1 w ↦ search rules
    ])
