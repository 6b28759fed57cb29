use Rattle.std.proofs.Common.{ℕ, ◌≡◌, ◌≤◌, ◌<◌, [], map, length, get_or}
use Rattle.teg_settle.specs.Copies.{AreShownDates}
use Rattle.teg_settle.proofs.settled.add_all.Given as goal

abbrev pub invariant-loop-index : goal.invariant-loop-index
invariant-loop-index l = record {
  width : length l.table ≡ l.rows.width;
  done : (t : ℕ) → t < l.index → AreShownDates l.rows t l.count (get_or (map (λ r. r.items) l.table) t []);
  left : (t : ℕ) → l.index ≤ t → t < l.rows.width → AreShownDates l.rows t l.shown (get_or (map (λ r. r.items) l.table) t []);
}
