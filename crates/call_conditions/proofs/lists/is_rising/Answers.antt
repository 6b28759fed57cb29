use Rattle.std.proofs.Common.{rules}
use Rattle.std.specs.Int.{w128}
use Rattle.std.proofs.lemmas.Int.{to_z-of_z}
use Rattle.call_conditions.proofs.RisingLists.{rising_else, rising_then}
use Rattle.call_conditions.proofs.lists.is_rising.Goals as goal

pub returns-then-rises : goal.returns-then-rises
returns-then-rises c =
    rising_then c.args.values.now c.args.period c.args.step c.rises.result c.goes_on.result c.requires.positive c.requires.fits c.rises.ensures
    (rw (to_z-of_z w128 c.args.step c.ranges.step) at c.goes_on.ensures) (search rules)

pub returns-else-rises : goal.returns-else-rises
returns-else-rises c = rising_else c.args.values.now c.args.period c.args.step c.rises.result c.requires.positive c.requires.fits c.rises.ensures (search rules)
