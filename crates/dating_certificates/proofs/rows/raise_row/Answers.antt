use Rattle.std.proofs.Common.{◌≡◌, ◌<◌, length, arith}
use Rattle.teg_net.specs.declared.entries.PlaceId.{PlaceId}
use Rattle.teg_net.specs.Circuits.{place_at, no_place}
use Rattle.teg_net.proofs.Reading.{read_place}
use Rattle.teg_model.specs.Datings.{listed_releases}
use Rattle.dating_certificates.specs.CheckedRows.{date_in_rows}
use Rattle.dating_certificates.proofs.RowWaits.{raised_begins, raised_more, raised_is}
use Rattle.dating_certificates.proofs.rows.raise_row.Goals as goal

pub loop-index-init : goal.loop-index-init
loop-index-init c =
    let net = c.args.net.now in
    raised_begins net (listed_releases net) (date_in_rows (length net.transitions) c.args.dates.now) c.args.number.now c.args.row.now c.requires.begun

pub loop-index-preserved : goal.loop-index-preserved
loop-index-preserved c =
    let net = c.args.net.now in
    let x = date_in_rows (length net.transitions) c.args.dates.now in
    let i = c.loop-index.index in
    let p : PlaceId = record { index = i } in
    let own_in : i < length net.places = rw c.places-place-items.ensures.value at c.loop-index-test.true in
    let q = c.place-item.result in
    let item : q ≡ place_at net p = read_place net c.places-place-items.result.now p q c.places-place-items.ensures.value own_in c.place-item.is in
    let to_in = (c.places-place-items.ensures.rules.each_place i no_place own_in).to_in in
    let value = rw (c.index-to.ensures, item, c.available.ensures, c.new-id.ensures, c.get.ensures.value) at c.later.ensures.value in
    rw (c.index-to.ensures, item) (raised_more net (listed_releases net) x c.args.number.now c.loop-index.row i c.later.result to_in c.loop-index.invariant value)

pub returns : goal.returns
returns c =
    let net = c.args.net.now in
    let end : c.loop-index.index ≡ length c.places-place-items.result.now = omega (arith, c.loop-index-test.false, c.loop-index.auto.index-end) in
    let all = rw c.places-place-items.ensures.value at end in
    raised_is net (listed_releases net) (date_in_rows (length net.transitions) c.args.dates.now) c.args.number.now c.loop-index.row (rw all at c.loop-index.invariant)
