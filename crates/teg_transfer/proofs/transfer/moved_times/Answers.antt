use Rattle.std.proofs.Common.{◌≡◌, map, subst, to_z, of_z}
use Rattle.std.specs.Int.{w128}
use Rattle.std.proofs.lemmas.Int.{to_z-of_z}
use Rattle.teg_report.specs.AnswerMeanings.{times_from, times_to}
use Rattle.teg_transfer.specs.MovedTimes.{times_moved}
use Rattle.teg_transfer.proofs.MovedTimes.{all_so, lines_moved}
use Rattle.teg_transfer.proofs.transfer.moved_times.Goals as goal

pub returns-in-Some : goal.returns-in-Some
returns-in-Some c =
    let times = c.args.times.now in
    let known : to_z w128 (of_z w128 c.args.lag) ≡ c.args.lag = to_z-of_z w128 c.args.lag (record { sfits = c.ranges.lag.sfits }) in
    let lines = rw c.in-Some.is at c.in_ok-lines.ensures in
    let same = rw c.as_slice.ensures.value at lines in
    subst (λ z. all_so c.args.input times.after times.period (map times_to c.in-Some.lines.items) ≡ times_moved z c.args.input (times_from times)) known
    (lines_moved (to_z w128 (of_z w128 c.args.lag)) c.args.input times c.in-Some.lines.items same)
