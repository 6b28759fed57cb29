use Rattle.std.proofs.Common.{◌≡◌, ◌<◌, length, get_or, refl, sym, arith}
use Rattle.std.proofs.lemmas.List.{get_or_read}
use Rattle.teg_net.specs.declared.entries.PlaceId.{PlaceId}
use Rattle.teg_net.specs.Circuits.{no_place, place_at, from_of}
use Rattle.teg_net.specs.Parts.{to_of, IsPlaceOfPart}
use Rattle.teg_parts.proofs.NumberingSteps.{marked_more, marked_skip}
use Rattle.teg_parts.proofs.numbering.inner_marks.Goals as goal
use Rattle.teg_parts.proofs.numbering.inner_marks.Goals.{then-part-part_of, else-part-part_of}

pub loop-place-preserved : goal.loop-place-preserved
loop-place-preserved c =
    let net = c.args.net.now in
    let part_of = c.args.part_of.now in
    let i = c.loop-place.place-index in
    let p : PlaceId = record { index = i } in
    let h = c.loop-place.invariant in
    let own_in = c.loop-place-test.true in
    let in_net : i < length net.places = rw c.places-place-items.ensures.value at own_in in
    let item : c.place-item.result ≡ place_at net p = rw c.places-place-items.ensures.value at (get_or_read c.places-place-items.result.now i c.place-item.result own_in c.place-item.is no_place) in
    let rules = c.places-place-items.ensures.rules.each_place i no_place in_net in
    let from_in : from_of net p < length part_of = let l = rules.from_in in let k = c.requires.count in omega arith in
    let to_in : to_of net p < length part_of = let l = rules.to_in in let k = c.requires.count in omega arith in
    let part = get_or part_of (from_of net p) 0 in
    elim c.if-part-part_of.branch [
      | then-part-part_of w ↦
          let same : get_or part_of (from_of net p) 0 ≡ get_or part_of (to_of net p) 0 = rw item at w.if-part-part_of.true in
          let inside : IsPlaceOfPart net part_of part p =
          record { in_range = in_net; from_member = record { in_range = from_in; here = refl }; to_member = record { in_range = to_in; here = sym same } } in
          rw (w.inner-is, item) (marked_more net part_of c.args.count c.loop-place.inner.items p part h (c.requires.below (from_of net p) 0 from_in) inside)
      | else-part-part_of w ↦ rw w.inner-is (marked_skip net part_of c.args.count c.loop-place.inner.items p h (rw item at w.if-part-part_of.false))
    ]
