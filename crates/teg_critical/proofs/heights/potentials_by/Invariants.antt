use Rattle.std.proofs.Common.{ℕ, pos, ◌≡◌, ◌<◌, length, get_or}
use Rattle.teg_critical.specs.Heights.{height_at}
use Rattle.teg_critical.proofs.heights.potentials_by.Given as goal

abbrev pub invariant-loop-height : goal.invariant-loop-height
invariant-loop-height l = (length l.potentials.items ≡ l.height-index) × ((k : ℕ) → k < l.height-index → get_or l.potentials.items k (pos 0) ≡ pos (height_at l.heights k))
