use Rattle.std.proofs.Common.{ℕ, ◌+◌, ◌-◌, ◌≤◌, ◌<◌, ◌≡◌}
use Rattle.dioid.specs.Dates.{move}
use Rattle.teg_settle.specs.InitialReleases.{release_by}
use Rattle.teg_settle.specs.ComparedRows.{most_window}
use Rattle.teg_settle.proofs.witness.PeriodTest.last_release_apart.Given as goal

abbrev pub invariant-loop-number : goal.invariant-loop-number
invariant-loop-number l = record {
  low : l.self.after ≤ l.number;
  high : l.number ≤ l.initial.number;
  few : l.initial.number ≤ most_window + 101000;
  alike : (k : ℕ) → l.number < k → k ≤ l.initial.number
      → release_by l.self.releases.waits.items l.self.net l.transition.index (k + l.self.period) ≡ move l.step (release_by l.self.releases.waits.items l.self.net l.transition.index k);
}

abbrev pub decreases-loop-number : goal.decreases-loop-number
decreases-loop-number l = l.number - l.self.after
