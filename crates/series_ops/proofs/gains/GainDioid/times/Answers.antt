use Rattle.series_laws.specs.Needs.{need_of}
use Rattle.series_laws.specs.ProductNeeds.{product_plan, form_product}
use Rattle.series_ops.specs.Gains.{gain_product}
use Rattle.series_ops.proofs.Refusing.{gain_refused}
use Rattle.series_ops.proofs.gains.GainDioid.times.Goals as goal

pub returns-in-Err-clause-answer : goal.returns-in-Err-clause-answer
returns-in-Err-clause-answer c = gain_refused (need_of (product_plan c.args.self.now.series c.args.other.now.series))
    (form_product c.args.self.now.series c.args.other.now.series) (gain_product c.args.self.now c.args.other.now)
    c.in-Err.why c.refused.result c.in-Err.ensures.model c.refused.ensures
