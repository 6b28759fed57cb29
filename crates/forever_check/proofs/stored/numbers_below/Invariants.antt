use Rattle.std.proofs.Common.{ℕ, ◌≡◌, map}
use Rattle.std.specs.List.{range_with_len}
use Rattle.forever_check.proofs.stored.numbers_below.Given as goal

abbrev pub invariant-loop-number : goal.invariant-loop-number
invariant-loop-number l = l.numbers.items ≡ map (λ (i : ℕ). i) (range_with_len 0 l.number)
