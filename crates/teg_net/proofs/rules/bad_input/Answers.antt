use Rattle.std.proofs.Common.{subst}
use Rattle.std.specs.Prelude.{All}
use Rattle.std.proofs.lemmas.List.{take_all}
use Rattle.std.proofs.lemmas.List.Elements.{All-more}
use Rattle.teg_net.specs.Nets.{IsInputOf, transitions_alone}
use Rattle.teg_net.proofs.rules.bad_input.Goals as goal

pub loop-index-preserved : goal.loop-index-preserved
loop-index-preserved c =
    All-more (IsInputOf (transitions_alone c.args.transitions.now)) c.args.inputs.now c.loop-index.index c.index-inputs-index.result c.loop-index-test.true c.loop-index.invariant
    (subst (IsInputOf (transitions_alone c.args.transitions.now)) c.index-inputs-index.is c.in_default.ensures.none)

pub returns-clause-none : goal.returns-clause-none
returns-clause-none c =
    subst (All (IsInputOf (transitions_alone c.args.transitions.now))) (take_all c.loop-index.index c.args.inputs.now c.loop-index-test.false) c.loop-index.invariant
