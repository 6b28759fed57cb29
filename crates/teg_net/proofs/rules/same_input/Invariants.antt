use Rattle.std.proofs.Common.{◌≢◌, take}
use Rattle.std.specs.Prelude.{AllPairs}
use Rattle.teg_net.specs.declared.entries.InputList.{InputList}
use Rattle.teg_net.proofs.rules.same_input.Given as goal

abbrev pub invariant-loop-index : goal.invariant-loop-index
invariant-loop-index l = AllPairs (λ (x y : InputList). x.transition.index ≢ y.transition.index) (take l.index l.inputs)
