use Rattle.std.proofs.Common.{ℕ, ◌≤◌, ◌<◌}
use Rattle.teg_settle.specs.ComparedRows.{IsRefuted}
use Rattle.teg_settle.proofs.search.seen_one_by_one.Given as goal

abbrev pub invariant-loop-period : goal.invariant-loop-period
invariant-loop-period l = (p : ℕ) → 1 ≤ p → p < l.period → IsRefuted l.asked.net.now l.asked.releases.now l.asked.most l.rows.count p
