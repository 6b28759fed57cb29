use Rattle.std.proofs.Common.{ℕ, ◌≤◌, ◌<◌, ◌-◌}
use Rattle.teg_settle.specs.ComparedRows.{AreRowsOf, IsRefuted}
use Rattle.teg_settle.proofs.search.search.Given as goal

abbrev pub invariant-search : goal.invariant-search
invariant-search l = record {
  rows : AreRowsOf l.asked.net.now l.asked.releases.now l.rows;
  within : l.start ≤ l.last → l.rows.count ≤ l.last;
  stage_in : l.stage ≤ l.last;
  stage_more : l.rows.count < l.last → l.rows.count < l.stage;
  refuted : l.start < l.rows.count → (period : ℕ) → IsRefuted l.asked.net.now l.asked.releases.now l.asked.most l.rows.count period;
}

abbrev pub decreases-search : goal.decreases-search
decreases-search l = l.last - l.rows.count
