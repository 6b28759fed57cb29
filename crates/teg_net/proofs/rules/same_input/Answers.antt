use Rattle.std.proofs.Common.{◌≢◌, refl, subst}
use Rattle.std.specs.Prelude.{AllPairs}
use Rattle.std.proofs.lemmas.List.{take_all}
use Rattle.teg_net.specs.declared.entries.InputList.{InputList}
use Rattle.teg_net.proofs.Distinct.{not_both}
use Rattle.teg_net.proofs.NetFaultLaws.{repeat_apart}
use Rattle.teg_net.proofs.rules.same_input.Goals as goal

pub loop-index-preserved : goal.loop-index-preserved
loop-index-preserved c =
    let read = c.index-inputs-index.result in
    repeat_apart (λ (x : InputList). x.transition.index) c.args.inputs.now c.loop-index.index read read.transition.index c.loop-index-test.true c.index-inputs-index.is refl
    (λ any. not_both c.any_list_of.result c.if-any_list_of.false (c.any_list_of.ensures.1 any)) c.loop-index.invariant

pub returns-clause-none : goal.returns-clause-none
returns-clause-none c =
    subst (AllPairs (λ (x y : InputList). x.transition.index ≢ y.transition.index)) (take_all c.loop-index.index c.args.inputs.now c.loop-index-test.false) c.loop-index.invariant
