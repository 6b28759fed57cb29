use Rattle.std.proofs.Common.{List, ◌≡◌, ◌<◌, ◌∙◌, length, sym, subst}
use Rattle.std.proofs.lemmas.List.{get_or_read}
use Rattle.teg_net.specs.declared.entries.Place.{Place}
use Rattle.teg_net.specs.Circuits.{no_place, place_at}
use Rattle.ready_changes.proofs.ReadyDates.{keeps_rules}
use Rattle.ready_changes.proofs.ready.net_with_ready.Goals as goal

pub new-requires : goal.new-requires
new-requires c =
    let net = c.args.net.now in
    let id = c.args.place in
    let transitions : c.in_ok-transitions.transitions.items ≡ net.transitions = c.in_ok-transitions.ensures ∙ c.transitions.ensures.value in
    let places : c.in_ok-places.places.items ≡ net.places = c.in_ok-places.ensures ∙ c.places.ensures.value in
    let inputs : c.in_ok-inputs.inputs.items ≡ net.inputs = c.in_ok-inputs.ensures ∙ c.inputs.ensures.value in
    let l : id.index < length c.in_ok-places.places.items = subst (λ (ps : List Place). id.index < length ps) (sym places) c.requires.place in
    let read : c.index_mut.result.now ≡ place_at net id =
    rw places at (get_or_read c.in_ok-places.places.items id.index c.index_mut.result.now l c.index_mut.ensures.value no_place) in
    rw (transitions, places, inputs, read, c.in_ok-places-2.ensures) (keeps_rules net id c.args.ready.now c.rules.ensures c.requires.place c.requires.ready)
