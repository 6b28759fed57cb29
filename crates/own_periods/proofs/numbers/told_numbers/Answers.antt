use Rattle.own_periods.proofs.Told.{least_numbers}
use Rattle.own_periods.proofs.numbers.told_numbers.Goals as goal

pub returns-in-Some : goal.returns-in-Some
returns-in-Some c =
    let of = c.args.of.now in
    least_numbers of.net.now c.rules.ensures c.args._live.now c.requires.stands c.requires.alone of.rows.now of.short of.width c.requires.least
    of.owns.now of.own of.pace of.at_pace (c.in_ok-go.ensures c.if-not-go.false) c.in-Some.period c.latest_start-after.result c.in-Some.ensures c.latest_start-after.ensures
