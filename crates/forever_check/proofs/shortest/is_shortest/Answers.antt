use Rattle.forever_check.proofs.ShortestLists.{shortest_list}
use Rattle.forever_check.proofs.shortest.is_shortest.Goals as goal

pub returns-in-Some : goal.returns-in-Some
returns-in-Some c = λ yes. shortest_list c.args.list.now c.in-Some.again c.in-Some.is (rw c.as_slice.ensures at (c.is_shortest_going.ensures yes))
