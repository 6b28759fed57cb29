use Rattle.teg_settle.proofs.SpreadOut.{spread_out}
use Rattle.teg_settle.proofs.walk_dates.WalkDates.new.Goals as goal

pub returns : goal.returns
returns c = spread_out c.args.marks.items c.args.new.items c.args.dates
