use Rattle.series_ops.proofs.SplitLaws.{stepped}
use Rattle.series_ops.proofs.StrideLaws.{own_is_stride}
use Rattle.series_ops.proofs.strides.own_stride.Goals as goal

pub returns : goal.returns
returns c = own_is_stride c.args.first.now _ c.period.ensures.series c.start.ensures.value c.period.ensures.value
    (stepped c.args.first.now c.step.result c.step.ensures.series c.step.ensures.value)
