use Rattle.std.proofs.Common.{◌≡◌, ◌≢◌, ◌<◌, None, length, refl, arith}
use Rattle.std.proofs.lemmas.List.{get_or_read}
use Rattle.teg_net.specs.declared.entries.PlaceId.{PlaceId}
use Rattle.teg_net.specs.Circuits.{no_place, place_at, from_of}
use Rattle.teg_net.specs.Parts.{to_of}
use Rattle.teg_parts.specs.PartNumbers.{component_at, part_number}
use Rattle.teg_parts.proofs.Marks.{none_by, some_by}
use Rattle.teg_parts.proofs.NumberingSteps.{blocked_more, blocked_skip}
use Rattle.teg_parts.proofs.numbering.blocked_components.Goals as goal
use Rattle.teg_parts.proofs.numbering.blocked_components.Goals.{then-components-from+then-is_none, else-components-from}
use Rattle.teg_parts.proofs.numbering.blocked_components.Goals.{else-components-from-via-then-components-from+else-is_none}
use Rattle.teg_parts.proofs.numbering.blocked_components.Goals.{else-components-from-via-else-components-from}

pub loop-place-preserved : goal.loop-place-preserved
loop-place-preserved c =
    let net = c.args.net.now in
    let comps = c.args.components.now in
    let numbers = c.args.numbers.now in
    let i = c.loop-place.place-index in
    let p : PlaceId = record { index = i } in
    let h = c.loop-place.invariant in
    let own_in = c.loop-place-test.true in
    let in_net : i < length net.places = rw c.places-place-items.ensures.value at own_in in
    let item : c.place-item.result ≡ place_at net p = rw c.places-place-items.ensures.value at (get_or_read c.places-place-items.result.now i c.place-item.result own_in c.place-item.is no_place) in
    let to_in : to_of net p < length comps = let l = (c.places-place-items.ensures.rules.each_place i no_place in_net).to_in in let k = c.requires.components.count in omega arith in
    let below = c.requires.components.below (to_of net p) to_in in
    elim c.if-components-from.branch [
      | then-components-from+then-is_none w ↦
          let other : component_at comps (from_of net p) ≢ component_at comps (to_of net p) = rw item at w.if-components-from.true in
          let none : part_number numbers (from_of net p) ≡ None = none_by (part_number numbers (from_of net p)) w.is_none.result (rw item at w.is_none.ensures) w.if-is_none.true in
          rw (w.blocked-is, item) (blocked_more net comps numbers c.loop-place.blocked.items p h below (record { in_range = in_net; enters = refl; other = other; unnumbered = none }))
      | else-components-from w ↦
          rw w.blocked-is
          (blocked_skip net comps numbers c.loop-place.blocked.items p h
          (λ b.
          elim w.else-components-from.branch [
            | else-components-from-via-then-components-from+else-is_none v ↦
                some_by (part_number numbers (from_of net p)) v.is_none.result (rw item at v.is_none.ensures) v.if-is_none.false b.unnumbered
            | else-components-from-via-else-components-from v ↦ b.other (rw item at v.if-components-from.false)
          ]))
    ]
