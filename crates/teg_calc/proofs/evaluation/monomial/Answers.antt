use Rattle.std.proofs.Common.{ℤ, ◌+◌, ◌∙◌, subst, arith}
use Rattle.series_ops.specs.series_laws.SeriesForms.{HasValues, monomial_at}
use Rattle.series_form.specs.SeriesAnswers.{AnswersOf}
use Rattle.teg_calc.proofs.SignedNumbers.{same_number}
use Rattle.teg_calc.proofs.evaluation.monomial.Goals as goal

pub returns-clause-answer : goal.returns-clause-answer
returns-clause-answer c =
    subst (λ (z : ℤ). AnswersOf (λ f. HasValues f (monomial_at c.args.shift z)) (c.args.shift + 1) (c.args.shift + 1) c.monomial.result)
    (same_number c.signed-date.result (omega (arith, c.signed-date.ensures.size)) ∙ c.signed-date.ensures.value) c.monomial.ensures
