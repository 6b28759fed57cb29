use Rattle.std.proofs.Common.{Some, None}
use Rattle.std.specs.BTreeMap.{get_by_text}
use Rattle.teg_net.specs.declared.entries.Transition.{Transition}
use Rattle.teg_net.specs.declared.entries.TransitionId.{TransitionId}
use Rattle.teg_net.proofs.NameTableLaws.{told_none, told_found}
use Rattle.teg_net.proofs.name_tables.Names.transition.Goals as goal

pub returns-in-None-clause-none : goal.returns-in-None-clause-none
returns-in-None-clause-none c net are =
    told_none (λ (x : Transition). x.name) (λ (id : TransitionId). id.index) net.transitions (λ name. get_by_text c.args.self.now.transitions name) c.args.name.now
    None are.transitions (rw c.in-None.is at c.get.ensures.value)

pub returns-in-Some-clause-none : goal.returns-in-Some-clause-none
returns-in-Some-clause-none c net are =
    told_none (λ (x : Transition). x.name) (λ (id : TransitionId). id.index) net.transitions (λ name. get_by_text c.args.self.now.transitions name) c.args.name.now
    (Some (record { index = c.in-Some.index.now })) are.transitions
    (rw c.in-Some.is at c.get.ensures.value)

pub returns-in-Some-clause-found : goal.returns-in-Some-clause-found
returns-in-Some-clause-found c net are =
    told_found (λ (x : Transition). x.name) (λ (id : TransitionId). id.index) net.transitions (λ name. get_by_text c.args.self.now.transitions name) c.args.name.now
    (Some (record { index = c.in-Some.index.now })) are.transitions
    (rw c.in-Some.is at c.get.ensures.value)
