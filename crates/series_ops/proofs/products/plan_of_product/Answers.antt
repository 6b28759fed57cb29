use Rattle.std.proofs.Common.{◌∙◌, sym}
use Rattle.series_laws.proofs.Sums.{second_first}
use Rattle.series_ops.proofs.products.plan_of_product.Goals as goal

pub plan_of_steeper-requires-in-Second-clause-slopes : goal.plan_of_steeper-requires-in-Second-clause-slopes
plan_of_steeper-requires-in-Second-clause-slopes c = second_first c.args.first.now c.args.second.now c.compare_slopes.ensures.left.canonical.form c.compare_slopes.ensures.right.canonical.form
    (sym c.compare_slopes.ensures.value ∙ c.in-Second.is)
