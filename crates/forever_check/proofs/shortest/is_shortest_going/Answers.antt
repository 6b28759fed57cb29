use Rattle.forever_check.proofs.ShortestLists.{shortest_in}
use Rattle.forever_check.proofs.shortest.is_shortest_going.Goals as goal

pub returns-then-is_least_start : goal.returns-then-is_least_start
returns-then-is_least_start c = λ yes. shortest_in c.args.dates.now c.args.again c.requires.rule (rw c.from.ensures at (c.is_least_start.ensures c.if-is_least_start.true))
    (rw c.from.ensures at (c.is_least_round.ensures yes))
