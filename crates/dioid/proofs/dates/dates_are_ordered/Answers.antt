use Rattle.dioid.proofs.DateOrder.{order_of_dates}
use Rattle.dioid.proofs.dates.dates_are_ordered.Goals as goal

pub returns : goal.returns
returns c = order_of_dates
