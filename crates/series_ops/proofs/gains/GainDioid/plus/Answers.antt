use Rattle.series_laws.specs.Needs.{need_of, sum_plan, form_sum}
use Rattle.series_ops.specs.Gains.{gain_sum}
use Rattle.series_ops.proofs.Refusing.{gain_refused}
use Rattle.series_ops.proofs.gains.GainDioid.plus.Goals as goal

pub returns-in-Err-clause-answer : goal.returns-in-Err-clause-answer
returns-in-Err-clause-answer c = gain_refused (need_of (sum_plan c.args.self.now.series c.args.other.now.series))
    (form_sum c.args.self.now.series c.args.other.now.series) (gain_sum c.args.self.now c.args.other.now)
    c.in-Err.why c.refused.result c.in-Err.ensures.model c.refused.ensures
