use Rattle.std.proofs.Common.{ℕ, ◌<◌, get_or}
use Rattle.own_periods.specs.declared.periods.OwnPeriod.{OwnPeriod}
use Rattle.own_periods.specs.OwnRows.{IsAtPace}
use Rattle.own_periods.proofs.slack.have_one_pace.Given as goal

abbrev pub invariant-loop-own : goal.invariant-loop-own
invariant-loop-own l = (i : ℕ) (d : OwnPeriod) → i < l.own-index → IsAtPace l.of.pace (get_or l.of.owns.now i d)
