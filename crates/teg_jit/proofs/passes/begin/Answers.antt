use Rattle.std.proofs.Common.{◌≡◌, length, get_or}
use Rattle.std.proofs.lemmas.List.{get_or_default}
use Rattle.teg_due.specs.declared.rows.DueRow.{DueRow}
use Rattle.teg_jit.specs.DueDates.{NamesFiring}
use Rattle.teg_due.proofs.DueOnce.{no_row}
use Rattle.teg_jit.proofs.Begun.{begun_more, begun_starts, begun_is}
use Rattle.teg_due.proofs.DueRows.{due_of_row}
use Rattle.teg_jit.proofs.passes.begin.Goals as goal

pub loop-row-init : goal.loop-row-init
loop-row-init c =
    begun_starts (length c.args.net.now.transitions) c.args.rows.now c.args.last c.in_ok-dates.dates
    (rw c.transitions-width.ensures.value at c.in_ok-dates.ensures.count) c.in_ok-dates.ensures.free

pub loop-row-preserved : goal.loop-row-preserved
loop-row-preserved c =
    let net = c.args.net.now in
    let rows = c.args.rows.now in
    let i = c.loop-row.row-index in
    let l = c.loop-row-test.true in
    let r : DueRow = get_or rows i no_row in
    let at : (q : DueRow) → get_or rows i q ≡ r = λ q. get_or_default rows i q no_row l in
    let own : NamesFiring net r = c.requires.due.each i no_row l in
    let width = c.transitions-width.ensures.value in
    rw (c.lower.ensures, c.cell_of-cell.ensures.value, width)
    (begun_more (length net.transitions) rows c.args.last c.loop-row.dates i r
    (λ j q m. let o = c.requires.due.each j q m in (o.in_range, o.from_one)) c.loop-row.invariant l at own.in_range own.from_one
    (c.requires.greatest.most i no_row l)
    (due_of_row rows i r c.requires.due.once l (at r)))

pub returns : goal.returns
returns c = begun_is c.args.net.now c.args.rows.now c.args.last c.loop-row.dates c.loop-row.row-index c.transitions-width.ensures.rules c.loop-row.invariant c.loop-row-test.false
