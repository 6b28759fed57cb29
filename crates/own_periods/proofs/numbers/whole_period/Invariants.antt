use Rattle.own_period_laws.specs.OwnForms.{IsLeastCommon}
use Rattle.own_periods.specs.OwnRows.{period_in}
use Rattle.own_periods.proofs.numbers.whole_period.Given as goal

abbrev pub invariant-loop-own : goal.invariant-loop-own
invariant-loop-own l = IsLeastCommon l.own-index (period_in l.of.owns.now) l.whole
