use Rattle.std.proofs.Common.{◌≡◌, ℤ, Result, Ok, Err, subst, true, to_z, of_z}
use Rattle.std.specs.Int.{w128}
use Rattle.std.proofs.lemmas.Int.{to_z-of_z}
use Rattle.dioid.specs.ElementAnswers.{Answers}
use Rattle.dioid.specs.declared.algebra.Refused.{Refused}
use Rattle.forever_laws.specs.series_laws.SeriesForms.{Form}
use Rattle.series_form.proofs.DateNumbers.{small_fits}
use Rattle.series_ops.specs.declared.gains.Gain.{Gain}
use Rattle.series_ops.specs.Gains.{gain_left, gain_of, LeftFits}
use Rattle.steady_series.proofs.SteadyLefts.{constant}
use Rattle.teg_forever.proofs.SteadyLeads.{told_by_lead}
use Rattle.teg_forever.proofs.steady.left_by_lead.Goals as goal

pub returns-in-Ok-left : goal.returns-in-Ok-left
returns-in-Ok-left c =
    let b = c.args.due.now in
    let lead = c.in-Some.lead in
    let y : Result Gain Refused = Ok c.in-Ok-left.residual in
    let same : to_z w128 (of_z w128 lead) ≡ lead = to_z-of_z w128 lead (small_fits lead c.in-Some.ensures.small) in
    told_by_lead c.args.list.now b lead c.in-Some.ensures.lead y
    (subst (λ (z : ℤ). Answers true (LeftFits (gain_of (constant z)) b) (gain_left (gain_of (constant z)) b) y) same
    (subst (λ (s : Form). Answers true (LeftFits (gain_of s) b) (gain_left (gain_of s) b) y) c.in-Ok.ensures.0 c.in-Ok-left.ensures.answer))

pub returns : goal.returns
returns c =
    let b = c.args.due.now in
    let lead = c.in-Some.lead in
    let y : Result Gain Refused = Err c.in-Err-left.why in
    let same : to_z w128 (of_z w128 lead) ≡ lead = to_z-of_z w128 lead (small_fits lead c.in-Some.ensures.small) in
    told_by_lead c.args.list.now b lead c.in-Some.ensures.lead y
    (subst (λ (z : ℤ). Answers true (LeftFits (gain_of (constant z)) b) (gain_left (gain_of (constant z)) b) y) same
    (subst (λ (s : Form). Answers true (LeftFits (gain_of s) b) (gain_left (gain_of s) b) y) c.in-Ok.ensures.0 c.in-Err-left.ensures.answer))
