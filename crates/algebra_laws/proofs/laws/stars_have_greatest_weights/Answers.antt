use Rattle.algebra_laws.proofs.Greatest.{stars_greatest}
use Rattle.algebra_laws.proofs.laws.stars_have_greatest_weights.Goals as goal

pub returns : goal.returns
returns c = stars_greatest c.star_is_least.ensures
