use Rattle.std.proofs.Common.{◌∙◌, sym}
use Rattle.series_laws.specs.Needs.{tail_of}
use Rattle.series_ops.proofs.ProductPlans.{numbers_gain}
use Rattle.series_ops.proofs.products.plan_of_steeper.Goals as goal

pub plan_past_waits-requires : goal.plan_past_waits-requires
plan_past_waits-requires c = numbers_gain (tail_of c.args.first.now) (tail_of c.args.second.now) _ _ _
    (sym c.tail-in-At.ensures.value ∙ c.in-At-tail.is) (sym c.tail.ensures.value ∙ c.in-At.is) c.requires.slopes
