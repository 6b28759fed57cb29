use Rattle.std.proofs.Common.{arith}
use Rattle.std.proofs.lemmas.Int.{to_z-of_z}
use Rattle.run_rows.proofs.Ordered.{ever_in_time, slack_in_time}
use Rattle.run_rows.proofs.in_time.turns_of_numbers.Goals as goal

pub returns-in-Some-Some-clause-in_time : goal.returns-in-Some-Some-clause-in_time
returns-in-Some-Some-clause-in_time c =
    let both = c.in-Some-Some in
    ever_in_time c.args.most both.field-0-0 both.field-0-1 c.args.token_step c.args.step c.args.token c.args.date (simp (to_z-of_z, c.ranges.date, c.ranges.token) at both.ensures) (simp (to_z-of_z, c.ranges.step, c.ranges.token_step) at both.ensures')

pub returns-in-Some-clause-in_time : goal.returns-in-Some-clause-in_time
returns-in-Some-clause-in_time c =
    slack_in_time c.turns_of_slack.result c.in-Some-None.slack c.in-Some.gain c.args.token_step c.args.step c.args.token c.args.date
    (simp (to_z-of_z, c.ranges.date, c.ranges.token) at c.in-Some-None.ensures) (simp (to_z-of_z, c.ranges.step, c.ranges.token_step) at c.in-Some.ensures) (omega (arith, c.if-gain-gt0.true)) c.turns_of_slack.ensures.slack
