use Rattle.std.proofs.Common.{◌≡◌, ℕ, pos, ◌<◌, length, get_or}
use Rattle.teg_sizing.specs.ValueRounds.{value_told}
use Rattle.teg_sizing.specs.EnoughPotentials.{IsPotentialOf}
use Rattle.teg_sizing.proofs.potentials.all_potentials.Given as goal

abbrev pub invariant-loop-number : goal.invariant-loop-number
invariant-loop-number l = record {
  count : length l.potentials.items ≡ l.number;
  each : (t : ℕ) → t < l.number → IsPotentialOf (value_told l.apart t) (value_told l.back t) l.over (get_or l.potentials.items t (pos 0));
}
