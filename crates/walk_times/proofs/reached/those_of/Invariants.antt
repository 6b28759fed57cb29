use Rattle.std.proofs.Common.{ℕ, ◌≡◌, ◌<◌, length, get_or}
use Rattle.teg_net.specs.declared.entries.Transition.{Transition}
use Rattle.walk_times.proofs.reached.those_of.Given as goal

abbrev pub invariant-loop-number : goal.invariant-loop-number
invariant-loop-number l = record {
  count : length l.those.items ≡ l.number-index;
  each : (u : ℕ) (d : Transition) → u < l.number-index → get_or l.those.items u d ≡ get_or l.transitions (get_or l.old u 0) d;
}
