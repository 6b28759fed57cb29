use Rattle.std.proofs.Common.{ℕ, ◌<◌}
use Rattle.teg_sizing.specs.TracedPaths.{NoneLeaves}
use Rattle.teg_sizing.proofs.loops.first_loop.Given as goal

abbrev pub invariant-loop-end : goal.invariant-loop-end
invariant-loop-end l = (k : ℕ) → k < l.end → NoneLeaves l.net l.places k
