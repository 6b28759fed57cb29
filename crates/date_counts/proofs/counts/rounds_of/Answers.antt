use Rattle.std.proofs.Common.{◌+◌, ◌≡◌, FitsSigned, to_z, of_z, refl, ap, ◌∙◌, rules}
use Rattle.std.specs.Int.{w128}
use Rattle.std.proofs.lemmas.Int.{to_z-of_z}
use Rattle.settled_laws.specs.SettledForms.{settled_date, step_of_form}
use Rattle.date_counts.proofs.Counting.{last_rises, rises_at}
use Rattle.date_counts.proofs.counts.rounds_of.Goals as goal

pub whole_periods-requires-clause-rises : goal.whole_periods-requires-clause-rises
whole_periods-requires-clause-rises c =
    let f = c.args.settled.now in
    let t = c.args.transition.index in
    let s = c.requires.steady in
    let fits : FitsSigned w128 c.step-step.result = search rules in
    let end : c.after.result + c.period.result ≡ f.after + f.period = rw (c.after.ensures.value, c.period.ensures.value) refl in
    rises_at c.date-last.result (settled_date f t (f.after + f.period)) (to_z w128 (of_z w128 c.step-step.result)) (step_of_form f t)
    (c.date-last.ensures.value ∙ ap (settled_date f t) end)
    (to_z-of_z w128 c.step-step.result fits ∙ c.step-step.ensures.value)
    (last_rises (settled_date f t) f.after f.period (step_of_form f t) s.some s.rise s.again)
