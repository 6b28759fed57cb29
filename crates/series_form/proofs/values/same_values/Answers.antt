use Rattle.std.proofs.Common.{arith, rules}
use Rattle.series_laws.proofs.FormValues.{same_lists}
use Rattle.series_form.proofs.values.same_values.Goals as goal

pub returns : goal.returns
returns c = (λ _. same_lists c.args.values.now c.args.other.now (omega arith) (λ k w. c.loop-index.invariant k (omega arith)), λ _. search rules)
