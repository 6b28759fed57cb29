use Rattle.date_rows.proofs.Earliest.{ordered_has_least}
use Rattle.date_rows.proofs.first_rows.FirstRows.new.Goals as goal

pub returns-clause-exists : goal.returns-clause-exists
returns-clause-exists c = ordered_has_least c.args.net.now c.in_ok-order.order c.transitions.ensures.rules c.in_ok-order.ensures.order
