use Rattle.std.proofs.Common.{sym, subst}
use Rattle.std.proofs.lemmas.List.{take_all}
use Rattle.teg_net.specs.declared.entries.Transition.{Transition}
use Rattle.teg_net.specs.NetFaults.{AreNamedApart}
use Rattle.teg_net.proofs.Distinct.{not_both}
use Rattle.teg_net.proofs.NetFaultLaws.{repeat_apart}
use Rattle.teg_net.proofs.rules.same_transition.Goals as goal

pub loop-index-preserved : goal.loop-index-preserved
loop-index-preserved c =
    let read = c.index-transitions-index.result in
    repeat_apart (λ (x : Transition). x.name) c.args.transitions.now c.loop-index.index read c.as_str.result.now c.loop-index-test.true c.index-transitions-index.is (sym c.as_str.ensures.text)
    (λ any. not_both c.any_transition_named.result c.if-any_transition_named.false (c.any_transition_named.ensures.1 any)) c.loop-index.invariant

pub returns-clause-none : goal.returns-clause-none
returns-clause-none c = subst AreNamedApart (take_all c.loop-index.index c.args.transitions.now c.loop-index-test.false) c.loop-index.invariant
