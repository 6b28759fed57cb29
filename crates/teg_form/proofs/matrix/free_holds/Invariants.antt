use Rattle.teg_form.proofs.Holds.{HoldsUpTo}
use Rattle.teg_form.proofs.matrix.free_holds.Given as goal

abbrev pub invariant-loop-place : goal.invariant-loop-place
invariant-loop-place l = HoldsUpTo l.net l.holds.items l.place-index
