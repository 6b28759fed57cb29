use Rattle.std.proofs.Common.{◌≡◌, length, get_or, arith}
use Rattle.std.proofs.lemmas.List.{get_or_default}
use Rattle.teg_due.specs.declared.rows.DueRow.{DueRow}
use Rattle.latest_certificates.proofs.SolvedRows.{rows_begin, rows_more}
use Rattle.latest_certificates.proofs.solved_rows.mark_rows.Goals as goal

pub loop-row-init : goal.loop-row-init
loop-row-init c = rows_begin c.args.told.now c.args.rows.now c.args.met.now c.args.number.now c.requires.marked

pub loop-row-preserved : goal.loop-row-preserved
loop-row-preserved c =
    let rows = c.args.rows.now in
    let j = c.loop-row.row-index in
    let none : DueRow = record { row = 0; transition = record { index = 0 }; number = 0; date = 0 } in
    let r : DueRow = get_or rows j none in
    let rule = c.requires.due.each j none c.loop-row-test.true in
    rw c.index-to.ensures
    (rows_more c.args.told.now rows c.loop-row.met c.args.number.now j r c.is_tight_row.result rule.in_range
    (λ d. get_or_default rows j d none c.loop-row-test.true) c.loop-row.invariant c.is_tight_row.ensures)

pub returns : goal.returns
returns c = let end : c.loop-row.row-index ≡ length c.args.rows.now = omega (arith, c.loop-row-test.false, c.loop-row.auto.row-index-end) in rw end at c.loop-row.invariant
