use Rattle.std.proofs.Common.{◌≡◌, ◌<◌, length}
use Rattle.teg_net.specs.declared.entries.PlaceId.{PlaceId}
use Rattle.teg_net.specs.Circuits.{place_at, no_place}
use Rattle.teg_net.proofs.Reading.{read_place}
use Rattle.latest_certificates.proofs.SolvedRows.{places_more}
use Rattle.latest_certificates.proofs.solved_rows.mark_places.Goals as goal

pub loop-index-preserved : goal.loop-index-preserved
loop-index-preserved c =
    let told = c.args.told.now in
    let net = told.net in
    let i = c.loop-index.index in
    let p : PlaceId = record { index = i } in
    let own_in : i < length net.places = rw c.places-place-items.ensures.value at c.loop-index-test.true in
    let q = c.place-item.result in
    let item : q ≡ place_at net p = read_place net c.places-place-items.result.now p q c.places-place-items.ensures.value own_in c.place-item.is in
    let from_in = (c.places-place-items.ensures.rules.each_place i no_place own_in).from_in in
    let tight = rw c.new.ensures at c.is_tight.ensures in
    rw (c.index-from.ensures, item) (places_more told c.loop-index.met c.args.number.now i c.is_tight.result from_in c.loop-index.invariant tight)
