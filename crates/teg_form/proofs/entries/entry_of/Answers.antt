use Rattle.std.proofs.Common.{◌≡◌, sym, ◌∙◌}
use Rattle.teg_net.specs.Circuits.{place_at}
use Rattle.teg_form.proofs.StarEntries.{time_from, none_from, read_place}
use Rattle.teg_form.proofs.entries.entry_of.Goals as goal

pub returns-in-At-clause-time : goal.returns-in-At-clause-time
returns-in-At-clause-time c =
    let net = c.args.net.now in
    let item : c.index-places-id.result ≡ place_at net c.args.id =
    read_place net c.places.result.now c.args.id.index c.index-places-id.result c.places.ensures.value c.requires.place c.index-places-id.is in
    time_from net c.args.times.now c.args.id c.args.to c.in-At.time c.index-places-id.result c.places.ensures.rules c.requires.times
    c.requires.place c.requires.to item (sym c.entry.ensures.value ∙ c.in-At.is)

pub returns-in-Early-clause-none : goal.returns-in-Early-clause-none
returns-in-Early-clause-none c = λ time w.
    let net = c.args.net.now in
    let item : c.index-places-id.result ≡ place_at net c.args.id =
    read_place net c.places.result.now c.args.id.index c.index-places-id.result c.places.ensures.value c.requires.place c.index-places-id.is in
    none_from net c.args.times.now c.args.id c.args.to time c.index-places-id.result c.places.ensures.rules c.requires.times c.requires.place item (sym c.entry.ensures.value ∙ c.in-Early.is) w
