use Rattle.std.proofs.Common.{arith}
use Rattle.teg_forever.proofs.KeptApart.{under_more}
use Rattle.teg_forever.proofs.leads.line_under.Goals as goal

pub loop-number-init : goal.loop-number-init
loop-number-init c = λ i z l e. absurd (omega arith)

pub loop-number-preserved : goal.loop-number-preserved
loop-number-preserved c =
    let a = c.args.row.now in
    let place = c.place_in-place.ensures.value in
    under_more a.settled a.row.transition.index c.args.past c.args.cycle c.args.class c.loop-number.start c.max-start.result c.loop-number.number c.least-date.result
    c.loop-number.invariant (rw place at c.least-date.ensures.least) (omega (arith, c.max-start.ensures)) (omega (arith, c.max-start.ensures, rw place at c.start_under.ensures))

pub returns : goal.returns
returns c = λ i z l e. c.loop-number.invariant i z (omega arith) e
