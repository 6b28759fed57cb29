use Rattle.std.proofs.Common.{ℕ, ◌≡◌, ◌≤◌, ◌<◌, length}
use Rattle.teg_settle.specs.ComparedRows.{IsRefuted}
use Rattle.teg_settle.specs.Struck.{AreStruck}
use Rattle.teg_settle.proofs.search.seen.Given as goal

abbrev pub invariant-loop-index : goal.invariant-loop-index
invariant-loop-index l = record {
  count : length l.struck.items ≡ l.periods;
  struck : AreStruck l.asked.net.now l.asked.releases.now l.asked.most l.rows.count l.struck.items;
  tried : (p : ℕ) → 1 ≤ p → p < l.index → IsRefuted l.asked.net.now l.asked.releases.now l.asked.most l.rows.count p;
}
