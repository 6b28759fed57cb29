use Rattle.std.proofs.Common.{◌∙◌, sym}
use Rattle.series_laws.proofs.Sums.{second_first}
use Rattle.series_form.proofs.pointwise.plan_of_sum.Goals as goal

pub crossing_of-requires-in-Second : goal.crossing_of-requires-in-Second
crossing_of-requires-in-Second c = second_first c.args.first.now c.args.second.now c.compare_slopes.ensures.left.canonical.form c.compare_slopes.ensures.right.canonical.form
    (sym c.compare_slopes.ensures.value ∙ c.in-Second.is)
