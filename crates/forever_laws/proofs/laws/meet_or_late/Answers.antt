use Rattle.forever_laws.proofs.FirstRows.{meet_or_first, late_excludes}
use Rattle.forever_laws.proofs.laws.meet_or_late.Goals as goal

pub returns : goal.returns
returns c = record { one = meet_or_first; not_both = late_excludes }
