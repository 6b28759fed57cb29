use Rattle.std.proofs.Common.{ℕ, ◌≡◌, ◌<◌, [], map, length, get_or}
use Rattle.run_rows.specs.ReadRuns.{IsColumn}
use Rattle.run_rows.proofs.columns.columns.Given as goal

abbrev pub invariant-loop-index : goal.invariant-loop-index
invariant-loop-index l = record {
  wide : length l.columns.items ≡ l.index;
  each : (t : ℕ) → t < l.index → IsColumn l.rows t l.first l.count (get_or (map (λ r. r.items) l.columns.items) t []);
}
