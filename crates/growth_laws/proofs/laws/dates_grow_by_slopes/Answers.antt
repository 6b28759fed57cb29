use Rattle.growth_laws.proofs.Growth.{dates_grow, slopes_exist, slopes_are_one}
use Rattle.growth_laws.proofs.laws.dates_grow_by_slopes.Goals as goal

pub returns : goal.returns
returns c = record { growth = dates_grow c.least_datings_repeat.ensures; exist = slopes_exist c.least_datings_repeat.ensures; one = slopes_are_one }
