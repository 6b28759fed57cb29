use Rattle.std.proofs.Common.{◌≡◌, get_or}
use Rattle.std.proofs.lemmas.List.{get_or_default}
use Rattle.teg_due.specs.declared.rows.DueRow.{DueRow}
use Rattle.teg_jit.specs.LateRefusals.{IsFirstLateDue}
use Rattle.teg_due.proofs.DueOnce.{no_row}
use Rattle.teg_jit.proofs.LateRows.{first_late_is}
use Rattle.teg_jit.proofs.late.keep_dues.Goals as goal

pub late_walk-requires-clause-least : goal.late_walk-requires-clause-least
late_walk-requires-clause-least c =
    let first = rw c.in-Some.is at c.in_ok-index.ensures.some in
    (first.0, first.1, first.2.is_least no_row)

pub returns-clause-late : goal.returns-clause-late
returns-clause-late c =
    let net = c.args.net.now in
    let rows = c.args.rows.now in
    let first = rw c.in-Some.is at c.in_ok-index.ensures.some in
    let i = c.in-Some.index in
    let r : DueRow = get_or rows i no_row in
    let at : (q : DueRow) → get_or rows i q ≡ r = λ q. get_or_default rows i q no_row first.2.within in
    let is : IsFirstLateDue first.0 rows r.transition r.number r.date c.in-Some.least =
    first_late_is first.0 rows i c.in-Some.least r first.2.kept first.2.within at (first.2.is_least no_row) (first.2.late no_row) in
    ((first.0, first.1, rw c.from.ensures is), rw (c.from.ensures, c.start_date-start.ensures.value) c.in_ok-walk.ensures)
