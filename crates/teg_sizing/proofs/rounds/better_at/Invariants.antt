use Rattle.std.proofs.Common.{ℕ, ◌<◌, ◌≡◌, None}
use Rattle.teg_sizing.specs.ValueRounds.{by_at}
use Rattle.teg_sizing.proofs.rounds.better_at.Given as goal

abbrev pub invariant-loop-index : goal.invariant-loop-index
invariant-loop-index l = (t : ℕ) → t < l.index → by_at l.cells t ≡ None
