use Rattle.own_periods.specs.OwnRows.{IsLatestStart}
use Rattle.own_periods.proofs.numbers.latest_start.Given as goal

abbrev pub invariant-loop-index : goal.invariant-loop-index
invariant-loop-index l = IsLatestStart l.of.rows.now l.of.owns.now l.index l.after
