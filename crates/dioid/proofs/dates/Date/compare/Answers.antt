use Rattle.dioid.proofs.DateOrderings.{ordering_told}
use Rattle.dioid.proofs.dates.Date.compare.Goals as goal

pub returns : goal.returns
returns c = ordering_told c.args.self c.args.other c.cmp.result c.cmp.ensures
