use Rattle.std.proofs.Common.{◌≡◌, ◌<◌, true, length, ap, arith}
use Rattle.std.specs.Prelude.{◌↔◌}
use Rattle.teg_net.specs.declared.entries.PlaceId.{PlaceId}
use Rattle.teg_net.specs.Circuits.{place_at}
use Rattle.teg_net.proofs.Reading.{read_place}
use Rattle.teg_critical.specs.Heights.{IsTightBy}
use Rattle.teg_critical.proofs.HeightLaws.{can_pass}
use Rattle.teg_critical.proofs.WitnessLaws.{pushed}
use Rattle.teg_critical.proofs.witnesses.tight_places.Goals as goal

pub is_tight-requires : goal.is_tight-requires
is_tight-requires c =
    let net = c.args.net.now in
    let q : PlaceId = record { index = c.loop-number.number } in
    let l : q.index < length net.places = rw c.places-place-items.ensures.value at c.loop-number-test.true in
    let item : c.place-item.result ≡ place_at net q = read_place net c.places-place-items.result.now q c.place-item.result c.places-place-items.ensures.value l c.place-item.is in
    rw item (can_pass net c.args.raised.now c.requires.can c.args.heights.now c.requires.heights q l)

pub loop-number-preserved : goal.loop-number-preserved
loop-number-preserved c =
    let net = c.args.net.now in
    let k = c.loop-number.number in
    let q : PlaceId = record { index = k } in
    let l : q.index < length net.places = rw c.places-place-items.ensures.value at c.loop-number-test.true in
    let item : c.place-item.result ≡ place_at net q = read_place net c.places-place-items.result.now q c.place-item.result c.places-place-items.ensures.value l c.place-item.is in
    pushed (λ j b. (b ≡ true) ↔ IsTightBy c.args.raised.now j (place_at net (record { index = j })) c.args.heights.now) true c.loop-number.tight.items c.push.new.self.items c.is_tight.result k
    c.loop-number.invariant.0 c.in_ok-push.ensures.items c.loop-number.invariant.1 (rw item at c.is_tight.ensures)

pub returns : goal.returns
returns c =
    let net = c.args.net.now in
    let end : c.loop-number.number ≡ length net.places =
    (let long = ap (λ z. length z) c.places-place-items.ensures.value in omega (arith, c.loop-number-test.false, c.loop-number.auto.number-end, long)) in
    let h = rw end at c.loop-number.invariant in
    record { count = h.0; each = λ q l. h.1 q.index l }
