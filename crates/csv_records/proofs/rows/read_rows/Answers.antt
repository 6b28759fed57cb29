use Rattle.std.proofs.Common.{rules}
use Rattle.std.proofs.lemmas.Result.{err_from_is_err_and}
use Rattle.csv_records.proofs.rows.read_rows.Goals as goal

pub returns-in_err-add_record-clause-refused : goal.returns-in_err-add_record-clause-refused
returns-in_err-add_record-clause-refused g c =
    let p = err_from_is_err_and c.from_residual-in_err-add_record.result c.from_residual-in_err-add_record.ensures.1 in
    let next = c.in_ok-next_record.ensures.found c.if-branch.true in
    rw (p.1, p.2) (λ other.
    let is = c.in_err-add_record.ensures.refused other in
    search rules)
