use Rattle.std.proofs.Common.{◌<◌, length, sym, subst}
use Rattle.teg_report.specs.AnswerMeanings.{times_from}
use Rattle.teg_transfer.proofs.MovedTimes.{moved_from_this}
use Rattle.teg_transfer.proofs.transfer.times_by_another.Goals as goal

pub times_after-requires-clause-before : goal.times_after-requires-clause-before
times_after-requires-clause-before c =
    subst (λ from. from.from.index < length c.args.net.now.transitions) (sym c.before-item.is) (c.requires.times c.loop-before.before-index c.before-item.result c.loop-before-test.true)

pub returns-in-Some : goal.returns-in-Some
returns-in-Some c =
    let moved = rw c.in-Some.is at c.in_ok-from.ensures in
    moved_from_this c.args.net.now c.args.input c.args.times.now c.loop-before.before-index c.before-item.result (times_from c.in-Some.from) c.loop-before-test.true c.before-item.is moved
