use Rattle.forever_laws.proofs.Meeting.{meets_where}
use Rattle.forever_laws.proofs.laws.zero_meets_where_none_late.Goals as goal

pub returns : goal.returns
returns c = meets_where
