use Rattle.std.proofs.Common.{◌≡◌, take}
use Rattle.walks_by_ends.proofs.led.transitions_copy.Given as goal

abbrev pub invariant-loop-transition : goal.invariant-loop-transition
invariant-loop-transition l = l.copies.items ≡ take l.transition-index l.transitions
