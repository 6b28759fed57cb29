use Rattle.std.proofs.Common.{take}
use Rattle.std.specs.BTreeMap.{get_by_text}
use Rattle.teg_net.specs.declared.entries.Place.{Place}
use Rattle.teg_net.specs.NameTables.{LooksUp}
use Rattle.teg_net.proofs.name_tables.place_numbers.Given as goal

-- the table has the names of the places so far
abbrev pub invariant-loop-index : goal.invariant-loop-index
invariant-loop-index l = LooksUp (λ (x : Place). x.name) l.net.places (take l.index l.net.places) (λ name. get_by_text l.ids name)
