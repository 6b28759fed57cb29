use Rattle.std.proofs.Common.{◌≡◌, bytes_eq, false, Some, is_some, map, ap, sym, ◌∙◌}
use Rattle.std.specs.List.{position, position_or_len}
use Rattle.std.specs.Map.Iter.{deref}
use Rattle.toml.specs.View.{view}
use Rattle.teg_reader.specs.TextLists.{is_among}
use Rattle.teg_reader.specs.DocumentTrees.{entry_names}
use Rattle.teg_reader.proofs.NumberLemmas.{TextKey, any_deref, position_deref, position_found}
use Rattle.teg_reader.proofs.RoleLemmas.{position_in, within_entries, find_at, find_none}
use Rattle.teg_reader.proofs.numbers.entry_named.Goals as goal

pub returns-in-Some : goal.returns-in-Some
returns-in-Some c =
    let found : position (λ (k : TextKey). bytes_eq c.args.text.now k.now) c.args.names.now.keys ≡ Some c.in-Some.index = sym c.get_index_of.ensures.index ∙ c.in-Some.is in
    let there : position_or_len (bytes_eq c.args.text.now) (entry_names (map view c.args.entries.now)) ≡ c.in-Some.index =
    rw (← c.requires) (sym (position_deref c.args.text.now c.args.names.now.keys) ∙ position_found _ c.args.names.now.keys c.in-Some.index found) in
    let within = within_entries c.args.names.now.keys c.args.entries.now c.in-Some.index (position_in _ c.args.names.now.keys c.in-Some.index found) c.requires in
    ap (λ v. Some (view v)) c.index-entries-index.is ∙ sym (find_at c.args.text.now c.args.entries.now c.in-Some.index _ there within)

pub returns-in-None : goal.returns-in-None
returns-in-None c =
    let none : is_among (map deref c.args.names.now.keys) c.args.text.now ≡ false = sym (c.get_index_of.ensures.found ∙ any_deref c.args.text.now c.args.names.now.keys) ∙ ap is_some c.in-None.is in
    sym (find_none c.args.text.now (map view c.args.entries.now) (rw (← c.requires) none))
