use Rattle.walks_by_ends.proofs.Told.{told_form}
use Rattle.walks_by_ends.proofs.times.latest_times.Goals as goal

pub returns-in-Some-clause-form : goal.returns-in-Some-clause-form
returns-in-Some-clause-form c =
    let laws = c.latest_goes_on.ensures in
    let even = rw c.deref.ensures.value at c.in-Some.ensures in
    told_form c.args.ways c.width.ensures.given c.walks_go_by_ends.ensures laws.latest laws.places c.own_periods_tell_forms.ensures c.in_ok-steps.steps.items c.in_ok-steps.ensures c.args.limit c.in-Some.after even
