use Rattle.std.proofs.Common.{ℕ, ◌<◌, ◌≤◌, length, get_or}
use Rattle.teg_timetable.proofs.late.highest.Given as goal

abbrev pub invariant-loop-index : goal.invariant-loop-index
invariant-loop-index l = record {
  within : l.best < length l.tops;
  high : (k : ℕ) → k < l.index → get_or l.tops k 0 ≤ get_or l.tops l.best 0;
}
