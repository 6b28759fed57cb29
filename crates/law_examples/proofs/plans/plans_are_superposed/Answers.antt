use Rattle.teg_jit.specs.Plans.{dates_of_plan}
use Rattle.law_examples.proofs.plans.plans_are_superposed.Goals as goal

pub returns : goal.returns
returns c x y f g =
    c.releases_are_superposed.ensures c.args.net.now (dates_of_plan c.args.first.now) (dates_of_plan c.args.second.now) x y f g
