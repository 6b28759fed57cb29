use Rattle.std.proofs.Common.{ℕ, pos, ◌-◌, ◌<◌, ◌≤◌}
use Rattle.dioid.specs.declared.dates.Date.TheVariants.{At}
use Rattle.dioid.specs.Dates.{IsAtMostDate}
use Rattle.settled_laws.specs.SettledForms.{settled_date}
use Rattle.date_counts.proofs.counts.count_below.Given as goal

abbrev pub invariant-loop-late : goal.invariant-loop-late
invariant-loop-late l = record {
  below : l.count < l.late;
  low : l.late ≤ l.end;
  by : (k : ℕ) → 1 ≤ k → k ≤ l.count → IsAtMostDate (settled_date l.settled l.transition.index k) (At (pos l.limit));
  later : IsAtMostDate (settled_date l.settled l.transition.index l.late) (At (pos l.limit)) → ⊥;
}

abbrev pub decreases-loop-late : goal.decreases-loop-late
decreases-loop-late l = l.late - l.count
