use Rattle.teg_net.proofs.Distinct.{not_both}
use Rattle.net_builder.proofs.Growing.{list_kept}
use Rattle.net_builder.proofs.Refusing.{same_input, bad_input}
use Rattle.net_builder.proofs.faults.list_fault.Goals as goal

pub returns-then-has_list-clause-some : goal.returns-then-has_list-clause-some
returns-then-has_list-clause-some c =
    λ ps ok. same_input c.args.transitions.now ps c.args.inputs.now ok c.args.list.now (c.has_list.ensures.0 c.if-has_list.true)

pub returns-in-Some-clause-some : goal.returns-in-Some-clause-some
returns-in-Some-clause-some c =
    λ ps ok.
    bad_input c.args.transitions.now ps c.args.inputs.now ok c.args.list.now _
    (λ any. not_both c.has_list.result c.if-has_list.false (c.has_list.ensures.1 any)) c.in-Some.ensures.some

pub returns-clause-none : goal.returns-clause-none
returns-clause-none c =
    λ ps ok.
    list_kept c.args.transitions.now ps c.args.inputs.now c.args.list.now ok
    (λ any. not_both c.has_list.result c.if-has_list.false (c.has_list.ensures.1 any)) c.in_default.ensures.none
