use Rattle.forever_check.specs.ShownLate.{IsLateAfter}
use Rattle.forever_check.proofs.ShownLate.{is_shown_late, row_among}
use Rattle.forever_check.proofs.late.shown_endless_late.Goals as goal

pub late_dates-requires-clause-row : goal.late_dates-requires-clause-row
late_dates-requires-clause-row c =
    row_among c.args.net.now c.args.rows.now (c.is_endless_of.ensures.0 c.if-not-is_endless_of.false) c.place_of-place.result c.row_at-row.result.now c.row_at-row.ensures

pub returns : goal.returns
returns c = λ yes.
    let rows = c.args.rows.now in
    let before = c.rows_before-before.result.now in
    let row = c.row_at-row.result.now in
    let late = c.in-Some-2.late in
    let first : IsLateAfter c.args.net.now before row c.in-Some.number late.due late.least = rw c.in-Some-2.is at c.in_ok-late.ensures in
    is_shown_late c.args.net.now rows before c.place_of-place.result row c.args.text.now
    (c.in_ok-is_seen_live.ensures.0 c.if-not-branch.false) (c.is_endless_of.ensures.0 c.if-not-is_endless_of.false) c.rows_before-before.ensures c.row_at-row.ensures
    c.in-Some.number late.due late.least first (c.in_ok-told.ensures yes)
