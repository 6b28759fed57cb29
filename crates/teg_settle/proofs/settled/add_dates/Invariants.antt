use Rattle.teg_settle.specs.Copies.{AreShownDates}
use Rattle.teg_settle.proofs.settled.add_dates.Given as goal

abbrev pub invariant-loop-number : goal.invariant-loop-number
invariant-loop-number l = AreShownDates l.rows l.transition.index l.number l.dates.items
