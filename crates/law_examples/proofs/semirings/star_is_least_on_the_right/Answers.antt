use Rattle.law_examples.proofs.semirings.star_is_least_on_the_right.Goals as goal

pub returns : goal.returns
returns g c =
    (c.stars_act_on_the_right.ensures.elements c.requires.commute).least c.args.a.now c.args.b.now c.args.x.now c.requires.first c.requires.second c.requires.third c.requires.solves
