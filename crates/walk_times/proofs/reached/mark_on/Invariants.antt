use Rattle.std.proofs.Common.{◌≡◌, length}
use Rattle.walk_times.proofs.reached.mark_on.Given as goal

abbrev pub invariant-loop-place : goal.invariant-loop-place
invariant-loop-place l = length l.marks ≡ length l.fn.marks
