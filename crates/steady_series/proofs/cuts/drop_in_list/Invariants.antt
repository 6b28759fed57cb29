use Rattle.std.specs.Prelude.{pos, ◌≤ℤ◌}
use Rattle.steady_series.specs.Cuts.{IsDropTo, IsUnder}
use Rattle.steady_series.proofs.cuts.drop_in_list.Given as goal

abbrev pub invariant-loop-shift : goal.invariant-loop-shift
invariant-loop-shift l = record {
  top : IsUnder l.second l.second.step 0 l.shift l.lead;
  low : pos 0 ≤ℤ l.drop;
  drops : IsDropTo l.second l.second.step l.shift l.drop;
}
