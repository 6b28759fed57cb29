use Rattle.std.proofs.Common.{arith}
use Rattle.std.proofs.lemmas.Int.{ints}
use Rattle.own_periods.proofs.slack.keeps_slack_at.Goals as goal

pub returns : goal.returns
returns c = λ yes a b la lb rb ra.
    let time = c.is_in_time.ensures yes in
    let low = c.least_at-least.ensures.least a la ra in
    let high = c.greatest_at-greatest.ensures.greatest b lb rb in
    omega (arith, ints, time, low, high)
