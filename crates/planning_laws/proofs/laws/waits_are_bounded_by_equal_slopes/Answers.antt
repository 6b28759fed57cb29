use Rattle.planning_laws.proofs.Stability.{bounded_by_slopes}
use Rattle.planning_laws.proofs.Stock.{stock_waits}
use Rattle.planning_laws.proofs.laws.waits_are_bounded_by_equal_slopes.Goals as goal

pub returns : goal.returns
returns c = record { slopes = bounded_by_slopes c.dates_grow_by_slopes.ensures.growth; stock = stock_waits }
