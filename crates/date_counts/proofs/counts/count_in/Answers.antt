use Rattle.settled_laws.specs.SettledForms.{settled_date, step_of_form}
use Rattle.date_counts.proofs.Counting.{endless}
use Rattle.date_counts.proofs.counts.count_in.Goals as goal

pub returns-in-None : goal.returns-in-None
returns-in-None c =
    let f = c.args.settled.now in
    let t = c.args.transition.index in
    let s = c.requires.steady in
    λ k o. (λ g. tt, λ u. endless (settled_date f t) f.after f.period (step_of_form f t) s.some s.rise s.again c.args.limit c.in-None.ensures k o)
