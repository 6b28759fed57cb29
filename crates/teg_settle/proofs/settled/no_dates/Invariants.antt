use Rattle.std.proofs.Common.{ℕ, ◌≡◌, ◌<◌, [], map, length, get_or}
use Rattle.teg_settle.proofs.settled.no_dates.Given as goal

abbrev pub invariant-loop-transition : goal.invariant-loop-transition
invariant-loop-transition l = record {
  count : length l.table.items ≡ l._transition;
  none : (t : ℕ) → t < l._transition → get_or (map (λ r. r.items) l.table.items) t [] ≡ [];
}
