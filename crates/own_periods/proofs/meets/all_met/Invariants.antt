use Rattle.std.proofs.Common.{ℕ, ◌<◌}
use Rattle.own_periods.specs.OwnRows.{AreMetIn, period_in}
use Rattle.own_periods.proofs.meets.all_met.Given as goal

abbrev pub invariant-loop-index : goal.invariant-loop-index
invariant-loop-index l = (t : ℕ) → t < l.index → AreMetIn l.of.net.now l.of.rows.now l.of.owns.now t (period_in l.of.owns.now t)
