use Rattle.std.proofs.Common.{ℕ, ◌+◌, ◌*◌, ◌%◌, ◌≤◌, ◌≡◌}
use Rattle.own_periods.proofs.numbers.least_multiple.Given as goal

abbrev pub invariant-multiples : goal.invariant-multiples
invariant-multiples l = record {
  is : l.whole ≡ l.fn.a * (l.times + 1);
  none : (j : ℕ) → 1 ≤ j → j ≤ l.times → (l.fn.a * j) % l.fn.b ≡ 0 → ⊥;
}
