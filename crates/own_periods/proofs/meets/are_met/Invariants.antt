use Rattle.std.proofs.Common.{ℕ, ◌+◌, ◌<◌}
use Rattle.own_periods.specs.OwnRows.{IsMetIn}
use Rattle.own_periods.proofs.meets.are_met.Given as goal

abbrev pub invariant-loop-at : goal.invariant-loop-at
invariant-loop-at l = (a : ℕ) → a < l.at → IsMetIn l.of.net.now l.of.rows.now l.of.owns.now l.transition.index (5001 + a)
