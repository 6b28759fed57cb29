use Rattle.std.proofs.Common.{arith}
use Rattle.teg_forever.proofs.KeptApart.{over_more}
use Rattle.teg_forever.proofs.leads.line_over.Goals as goal

pub loop-number-init : goal.loop-number-init
loop-number-init c = λ j d l e. absurd (omega arith)

pub loop-number-preserved : goal.loop-number-preserved
loop-number-preserved c =
    let place = c.place_in-place.ensures.value in
    over_more c.args.row.now c.args.past c.args.class c.loop-number.start c.min-start.result c.loop-number.number c.due_at-due.result
    c.loop-number.invariant (rw place at c.due_at-due.ensures.due) (omega (arith, c.min-start.ensures)) (omega (arith, c.min-start.ensures, rw place at c.start_over.ensures))

pub returns : goal.returns
returns c = λ j d l e. c.loop-number.invariant j d (omega arith) e
