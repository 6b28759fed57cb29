use Rattle.std.proofs.Common.{◌<◌, ◌≤◌, ◌+◌, ◌≡◌, max, subst, arith}
use Rattle.teg_timetable.proofs.Tops.{top_first, top_more}
use Rattle.teg_timetable.proofs.late.top.Goals as goal
use Rattle.teg_timetable.proofs.TopsUpTo.{IsTopUpTo}

pub loop-number-init : goal.loop-number-init
loop-number-init c =
    let s = c.args.left.now in
    let first : c.after-first.result + 1 ≡ s.form.after + 1 = omega (arith, c.after-first.ensures.value) in
    let some : 1 ≤ s.form.period = omega (arith, c.period.ensures.value, c.period.ensures.some) in
    top_first s c.args.transition.index (c.after-first.result + 1) c.delay-top.result first c.delay-top.ensures.value some

pub loop-number-preserved : goal.loop-number-preserved
loop-number-preserved c =
    let s = c.args.left.now in
    let number = c.loop-number.number in
    let past : s.form.after < number = omega (arith, c.after-first.ensures.value, c.loop-number.auto.number) in
    let within : number ≤ s.form.after + s.form.period = omega (arith, c.after-first.ensures.value, c.period.ensures.value, c.loop-number-test.true) in
    let is : max c.loop-number.top c.delay.result ≡ c.max-top.result = omega (arith, c.max-top.ensures) in
    subst (IsTopUpTo s c.args.transition.index (number + 1)) is
    (top_more s c.args.transition.index number c.loop-number.top c.delay.result c.loop-number.invariant c.delay.ensures.value past within)
