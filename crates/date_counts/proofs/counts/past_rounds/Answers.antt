use Rattle.settled_laws.specs.SettledForms.{settled_date, step_of_form}
use Rattle.date_counts.proofs.Counting.{past_end, counted}
use Rattle.date_counts.proofs.counts.past_rounds.Goals as goal

pub count_below-count-requires-clause-later : goal.count_below-count-requires-clause-later
count_below-count-requires-clause-later c =
    let f = c.args.settled.now in
    let t = c.args.transition.index in
    let s = c.requires.steady in
    rw (c.after.ensures.value, c.period-period.ensures.value)
    (past_end (settled_date f t) f.after f.period (step_of_form f t) s.some s.rise s.again c.args.limit c.args.rounds c.requires.rounds)

pub returns : goal.returns
returns c =
    let f = c.args.settled.now in
    let t = c.args.transition.index in
    let s = c.requires.steady in
    rw (c.from.ensures, c.from-2.ensures, c.period-period.ensures.value, c.from-3.ensures)
    (counted (settled_date f t) f.after f.period (step_of_form f t) s.some s.rise s.again c.args.limit c.args.rounds c.requires.rounds c.count_below-count.result c.count_below-count.ensures.count)
