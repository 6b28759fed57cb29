use Rattle.std.proofs.Common.{◌≡◌, sym, subst, arith}
use Rattle.std.specs.Prelude.{Any}
use Rattle.teg_net.specs.declared.entries.Transition.{Transition}
use Rattle.teg_net.proofs.Distinct.{not_both}
use Rattle.net_builder.proofs.Growing.{transition_kept}
use Rattle.net_builder.proofs.Refusing.{many_transitions, same_transition}
use Rattle.net_builder.proofs.faults.transition_fault.Goals as goal

pub returns-then-transitions-ge-MOST_TRANSITIONS-clause-some : goal.returns-then-transitions-ge-MOST_TRANSITIONS-clause-some
returns-then-transitions-ge-MOST_TRANSITIONS-clause-some c = λ ps ls ok. many_transitions c.args.transitions.now ps ls ok c.args.transition.now (omega arith)

pub returns-then-is_transition_named-clause-some : goal.returns-then-is_transition_named-clause-some
returns-then-is_transition_named-clause-some c =
    λ ps ls ok.
    same_transition c.args.transitions.now ps ls ok c.args.transition.now (omega arith)
    (subst (λ n. Any (λ (t : Transition). t.name ≡ n) c.args.transitions.now) c.as_str.ensures.text (c.is_transition_named.ensures.0 c.if-is_transition_named.true))

pub returns-clause-none : goal.returns-clause-none
returns-clause-none c =
    λ ps ls ok.
    transition_kept c.args.transitions.now ps ls c.args.transition.now ok (omega arith) c.as_str.ensures.name
    (λ any.
    not_both c.is_transition_named.result c.if-is_transition_named.false
    (c.is_transition_named.ensures.1 (subst (λ n. Any (λ (t : Transition). t.name ≡ n) c.args.transitions.now) (sym c.as_str.ensures.text) any)))
