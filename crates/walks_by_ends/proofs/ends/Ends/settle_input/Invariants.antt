use Rattle.walks_by_ends.specs.EndForms.{AreEndsOf}
use Rattle.walks_by_ends.proofs.ends.Ends.settle_input.Given as goal

abbrev pub invariant-loop-place : goal.invariant-loop-place
invariant-loop-place l = AreEndsOf l.net l.self
