use Rattle.std.proofs.Common.{◌≡◌, ◌<◌, ◌+◌, ◌-◌, length, subst, refl, arith}
use Rattle.std.proofs.lemmas.List.{get_or_read}
use Rattle.teg_net.specs.declared.entries.PlaceId.{PlaceId}
use Rattle.teg_net.specs.Circuits.{no_place, place_at, from_of}
use Rattle.teg_net.specs.Parts.{IsMember, IsPlaceOfPart, to_of}
use Rattle.teg_howard.proofs.Lowest.{LowestFrom, lowest_taken}
use Rattle.teg_howard.proofs.policies.lowest_places.Goals as goal

pub loop-index-preserved-then-is_inside : goal.loop-index-preserved-then-is_inside
loop-index-preserved-then-is_inside c =
    let net = c.args.net.now in
    let parts = c.args.parts.now in
    let part = c.args.part in
    let p : PlaceId = record { index = c.loop-index.index - 1 } in
    let own_in : p.index < length c.places-places.result.now = omega (arith, c.loop-index-test.true, c.loop-index.auto.index) in
    let in_net : p.index < length net.places = rw c.places-places.ensures.value at own_in in
    let item : c.index-places-index.result ≡ place_at net p =
    rw c.places-places.ensures.value at (get_or_read c.places-places.result.now p.index c.index-places-index.result own_in
    c.index-places-index.is no_place) in
    let both : IsMember parts part (from_of net p) × IsMember parts part (to_of net p) = rw item at (c.is_inside.ensures.0 c.if-is_inside.true) in
    let inside : IsPlaceOfPart net parts part p = record { in_range = in_net; from_member = both.0; to_member = both.1 } in
    let one : c.loop-index.index ≡ p.index + 1 = omega (arith, c.loop-index-test.true) in
    let before : LowestFrom net parts part c.loop-index.policy.items (p.index + 1) = subst (LowestFrom net parts part c.loop-index.policy.items) one c.loop-index.invariant in
    rw item (lowest_taken net parts part c.loop-index.policy.items p.index p before refl inside)
