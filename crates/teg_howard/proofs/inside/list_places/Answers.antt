use Rattle.std.proofs.Common.{◌≡◌, ◌<◌, length}
use Rattle.std.proofs.lemmas.Bool.{iff_false}
use Rattle.std.proofs.lemmas.List.{get_or_read}
use Rattle.teg_net.specs.declared.entries.PlaceId.{PlaceId}
use Rattle.teg_net.specs.Circuits.{no_place, place_at, from_of}
use Rattle.teg_net.specs.Parts.{IsMember, to_of}
use Rattle.teg_howard.proofs.InnerPlaces.{places_none, places_more, places_skip, places_all}
use Rattle.teg_howard.proofs.inside.list_places.Goals.{then-is_inside+in_ok-push, else-is_inside}
use Rattle.teg_howard.proofs.inside.list_places.Goals as goal

pub loop-index-init : goal.loop-index-init
loop-index-init c = rw c.new-ids.ensures.items (places_none c.args.net.now c.args.parts.now c.args.part)

pub loop-index-preserved : goal.loop-index-preserved
loop-index-preserved c =
    let net = c.args.net.now in
    let parts = c.args.parts.now in
    let part = c.args.part in
    let p : PlaceId = record { index = c.loop-index.index } in
    let h = c.loop-index.invariant in
    let in_net : p.index < length net.places = rw c.places-place-items.ensures.value at c.loop-index-test.true in
    let item : c.place-item.result ≡ place_at net p =
    rw c.places-place-items.ensures.value at (get_or_read c.places-place-items.result.now p.index c.place-item.result
    c.loop-index-test.true c.place-item.is no_place) in
    elim c.if-is_inside.branch [
      | then-is_inside+in_ok-push w ↦
          let both : IsMember parts part (from_of net p) × IsMember parts part (to_of net p) = rw item at (c.is_inside.ensures.0 w.if-is_inside.true) in
          rw (w.ids-is, w.in_ok-push.ensures.items) (places_more net parts part c.loop-index.ids.items p h (record { in_range = in_net; from_member = both.0; to_member = both.1 }))
      | else-is_inside w ↦ rw w.ids-is (places_skip net parts part c.loop-index.ids.items p h (λ k. iff_false c.is_inside.ensures w.if-is_inside.false (rw item (k.from_member, k.to_member))))
    ]

pub returns : goal.returns
returns c = places_all c.args.net.now c.args.parts.now c.args.part c.loop-index.ids.items c.loop-index.index (rw c.places-place-items.ensures.value at c.loop-index-test.false) c.loop-index.invariant
