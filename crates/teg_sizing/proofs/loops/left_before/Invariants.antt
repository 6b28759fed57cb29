use Rattle.std.proofs.Common.{ℕ, ◌<◌, ◌≢◌}
use Rattle.teg_sizing.specs.TracedPaths.{transition_left_at}
use Rattle.teg_sizing.proofs.loops.left_before.Given as goal

abbrev pub invariant-loop-before : goal.invariant-loop-before
invariant-loop-before l = (k : ℕ) → k < l.before → transition_left_at l.net l.places k ≢ transition_left_at l.net l.places l.position
