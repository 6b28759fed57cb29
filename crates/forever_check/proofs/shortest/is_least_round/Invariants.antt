use Rattle.std.proofs.Common.{ℕ, ◌≤◌, ◌<◌, ◌≡◌, ◌%◌}
use Rattle.forever_check.specs.ReleaseWalks.{GoesOnIn}
use Rattle.forever_check.proofs.shortest.is_least_round.Given as goal

abbrev pub invariant-loop-by : goal.invariant-loop-by
invariant-loop-by l = (by : ℕ) → 1 ≤ by → by < l.by → l.again.every % by ≡ 0 → GoesOnIn l.dates l.again l.past by → ⊥
