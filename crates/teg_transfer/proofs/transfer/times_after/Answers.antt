use Rattle.std.proofs.Common.{◌≡◌, rules, sym, subst, to_z, of_z}
use Rattle.std.specs.Int.{w128}
use Rattle.std.proofs.lemmas.Int.{to_z-of_z}
use mir.Val.{SFits}
use Rattle.teg_report.specs.AnswerMeanings.{times_from}
use Rattle.teg_lags.specs.Lags.{AreLagged}
use Rattle.teg_transfer.proofs.MovedTimes.{moved_so}
use Rattle.teg_transfer.proofs.transfer.times_after.Goals as goal

pub returns-in-Some : goal.returns-in-Some
returns-in-Some c =
    let lag = c.in-Some.lag in
    let fits : SFits w128 lag = search rules in
    let known : to_z w128 (of_z w128 lag) ≡ lag = to_z-of_z w128 lag fits in
    moved_so c.args.net.now c.args.input (times_from c.args.before.now) (to_z w128 (of_z w128 lag)) c.moved_times.result
    (subst (AreLagged c.args.net.now c.args.before.now.from.index c.args.input.index) (sym known) c.in-Some.ensures.lagged) c.moved_times.ensures
