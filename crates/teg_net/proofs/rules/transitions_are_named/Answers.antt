use Rattle.std.proofs.Common.{subst}
use Rattle.std.specs.Prelude.{All, IsTrue}
use Rattle.std.proofs.lemmas.List.{take_all}
use Rattle.std.proofs.lemmas.List.Elements.{All-more}
use Rattle.teg_net.specs.Names.{is_name}
use Rattle.teg_net.specs.declared.entries.Transition.{Transition}
use Rattle.teg_net.proofs.rules.transitions_are_named.Goals as goal

pub loop-transition-preserved : goal.loop-transition-preserved
loop-transition-preserved c =
    All-more (λ (t : Transition). IsTrue (is_name t.name)) c.args.transitions.now c.loop-transition.transition-index c.transition-item.result c.loop-transition-test.true c.loop-transition.invariant
    (subst (λ (t : Transition). IsTrue (is_name t.name)) c.transition-item.is c.as_str-name.ensures.name)

pub returns : goal.returns
returns c =
    subst (All (λ (t : Transition). IsTrue (is_name t.name))) (take_all c.loop-transition.transition-index c.args.transitions.now c.loop-transition-test.false) c.loop-transition.invariant
