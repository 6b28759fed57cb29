use Rattle.std.proofs.Common.{take}
use Rattle.std.specs.BTreeMap.{get_by_text}
use Rattle.teg_net.specs.declared.entries.Transition.{Transition}
use Rattle.teg_net.specs.NameTables.{LooksUp}
use Rattle.teg_net.proofs.name_tables.transition_numbers.Given as goal

-- the table has the names of the transitions so far
abbrev pub invariant-loop-index : goal.invariant-loop-index
invariant-loop-index l = LooksUp (λ (x : Transition). x.name) l.net.transitions (take l.index l.net.transitions) (λ name. get_by_text l.ids name)
