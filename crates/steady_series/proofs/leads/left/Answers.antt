use Rattle.std.proofs.Common.{◌≡◌, ℤ, subst, true, to_z, of_z}
use Rattle.std.specs.Int.{w128}
use Rattle.std.proofs.lemmas.Int.{to_z-of_z}
use Rattle.dioid.specs.ElementAnswers.{Answers}
use Rattle.series_laws.specs.SeriesForms.{Form}
use Rattle.series_form.proofs.DateNumbers.{small_fits}
use Rattle.series_ops.specs.Gains.{gain_left, gain_of, LeftFits}
use Rattle.steady_series.proofs.SteadyLefts.{answers_same, constant}
use Rattle.steady_series.proofs.leads.left.Goals as goal

pub returns-in-Ok : goal.returns-in-Ok
returns-in-Ok c =
    let a = c.args.first.now in
    let b = c.args.second.now in
    let y = c.left-in-Ok.result in
    let lead = c.in-Some.lead in
    let same : to_z w128 (of_z w128 lead) ≡ lead = to_z-of_z w128 lead (small_fits lead c.in-Some.ensures.small) in
    record {
      answer = answers_same a b c.in-Some.lead c.in-Some.ensures.lead y
          (subst (λ (z : ℤ). Answers true (LeftFits (gain_of (constant z)) b) (gain_left (gain_of (constant z)) b) y) same
          (subst (λ (s : Form). Answers true (LeftFits (gain_of s) b) (gain_left (gain_of s) b) y) c.in-Ok.ensures.0 c.left-in-Ok.ensures.answer));
    }
