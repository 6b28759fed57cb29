use Rattle.std.proofs.Common.{rules, ◌≡◌, ◌∙◌, ◌<◌, List, length, get_or, Some, sym, refl, ap, subst}
use Rattle.std.specs.BTreeMap.{get_by_text}
use Rattle.std.specs.String.{string_bytes}
use Rattle.std.proofs.lemmas.List.{take_all}
use Rattle.std.proofs.lemmas.Map.Text.{btree_map_updates_text}
use Rattle.teg_net.specs.declared.entries.Place.{Place}
use Rattle.teg_net.specs.NameTables.{LooksUp}
use Rattle.teg_net.proofs.NameTableLaws.{looks_more, nothing_yet}
use Rattle.teg_net.proofs.name_tables.place_numbers.Goals as goal

pub loop-index-init : goal.loop-index-init
loop-index-init c = nothing_yet (λ (x : Place). x.name) c.args.net.now.places _ (λ name. rw c.new-ids.ensures.empty refl)

pub loop-index-preserved : goal.loop-index-preserved
loop-index-preserved c =
    let xs = c.args.net.now.places in
    let i = c.loop-index.index in
    let items = c.places-place-items.ensures.value in
    let lt : i < length xs = rw (sym items) (search rules) in
    let name = string_bytes c.in_ok-name.name in
    let named : name ≡ (get_or xs i c.place-item.result).name =
    c.in_ok-name.ensures.ok ∙ (c.as_str.ensures.text ∙ ap (λ (x : Place). x.name) (c.place-item.is ∙ ap (λ (ys : List Place). get_or ys i c.place-item.result) items)) in
    looks_more (λ (x : Place). x.name) xs i c.place-item.result (λ n. get_by_text c.loop-index.ids n) (λ n. get_by_text c.insert.new.self n) name lt c.loop-index.invariant named
    (btree_map_updates_text name c.loop-index.ids c.insert.new.self (Some i) c.in_ok-insert.ensures.updates)

pub returns : goal.returns
returns c =
    let xs = c.args.net.now.places in
    subst (λ first. LooksUp (λ (x : Place). x.name) xs first (λ name. get_by_text c.loop-index.ids name))
    (take_all c.loop-index.index xs (rw (sym c.places-place-items.ensures.value) c.loop-index-test.false)) c.loop-index.invariant
