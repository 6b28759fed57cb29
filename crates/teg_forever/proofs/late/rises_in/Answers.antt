use Rattle.std.proofs.Common.{◌≡◌, ◌+◌, arith}
use Rattle.teg_forever.proofs.Cycles.{rises_more, rises_all}
use Rattle.teg_forever.proofs.late.rises_in.Goals as goal

pub loop-number-init : goal.loop-number-init
loop-number-init c = let after = rw c.settled-settled.ensures.value at c.after-after.ensures.value in λ k l m. absurd (omega arith)

pub loop-number-preserved : goal.loop-number-preserved
loop-number-preserved c =
    let a = c.args.row.now in
    let cycle = c.args.cycle in
    let same : c.least-later.result ≡ c.least.result + cycle.rise = omega arith in
    rises_more a.settled a.row.transition.index c.settled-settled.ensures.told.steps cycle.firings cycle.rise c.loop-number.number c.least-later.result c.least.result
    c.least-later.ensures.least c.least.ensures.least same c.loop-number.invariant

pub returns : goal.returns
returns c = λ _.
    let a = c.args.row.now in
    let told = c.settled-settled.ensures.told in
    let after = rw c.settled-settled.ensures.value at c.after-after.ensures.value in
    let period = rw c.settled-settled.ensures.value at c.period.ensures.value in
    rises_all a.settled a.row.transition.index told.steps c.args.cycle.firings c.args.cycle.rise told.form.stands.sizes.at_least_one
    (λ k l m. c.loop-number.invariant k l (omega arith))
