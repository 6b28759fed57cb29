use Rattle.std.proofs.lemmas.Result.{IfErr-weaker, IfOk-weaker}
use Rattle.timetable_calls.specs.Earliest.{AreEarliest, IsPeriodRefused}
use Rattle.timetable_calls.specs.FractionPeriods.{AreEarliestAt, IsRefusedAt}
use Rattle.timetable_calls.proofs.Units.{by_units, refused_in_units}
use Rattle.timetable_calls.proofs.earliest.earliest_timetable.Goals as goal

pub returns-clause-earliest : goal.returns-clause-earliest
returns-clause-earliest c =
    let net = c.args.net.now in
    let period = c.args.period in
    IfOk-weaker c.firsts_at.result (λ firsts. AreEarliestAt net 1 period firsts.items) (λ firsts. AreEarliest net period firsts.items)
    (λ firsts h. by_units net period firsts.items h) c.firsts_at.ensures.earliest

pub returns-clause-refused : goal.returns-clause-refused
returns-clause-refused c =
    let net = c.args.net.now in
    let period = c.args.period in
    IfErr-weaker c.firsts_at.result (IsRefusedAt net 1 period) (IsPeriodRefused net period) (refused_in_units net period) c.firsts_at.ensures.refused
