use Rattle.series_laws.specs.ProductNeeds.{star_need, form_star}
use Rattle.series_ops.specs.Gains.{gain_star}
use Rattle.series_ops.proofs.Refusing.{gain_refused}
use Rattle.series_ops.proofs.gains.GainKleene.star.Goals as goal

pub returns-in-Err-clause-answer : goal.returns-in-Err-clause-answer
returns-in-Err-clause-answer c = gain_refused (star_need c.args.self.now.series) (form_star c.args.self.now.series) (gain_star c.args.self.now)
    c.in-Err.why c.refused.result c.in-Err.ensures.model c.refused.ensures
