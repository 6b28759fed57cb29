use Rattle.std.proofs.Common.{◌≡◌, ◌<◌, length, set, sym, subst, ◌∙◌}
use Rattle.std.proofs.lemmas.List.{get_or_read, length-set}
use Rattle.teg_net.specs.declared.entries.Place.{Place}
use Rattle.teg_net.specs.declared.entries.PlaceId.{PlaceId}
use Rattle.teg_net.specs.Circuits.{no_place, place_at, from_of}
use Rattle.teg_net.specs.Parts.{IsMember, IsPlaceOfPart, to_of}
use Rattle.teg_howard.specs.FoundCircuits.{IsBeginning}
use Rattle.teg_howard.proofs.Runs.{begins_so}
use Rattle.teg_howard.proofs.beginnings.greatest_first.Goals.{then-is_inside+then-index-offered, then-is_inside+else-index-offered, else-is_inside}
use Rattle.teg_howard.proofs.beginnings.greatest_first.Goals as goal

pub loop-index-preserved : goal.loop-index-preserved
loop-index-preserved c =
    let net = c.args.net.now in
    let parts = c.args.parts.now in
    let part = c.args.part in
    let p : PlaceId = record { index = c.loop-index.index } in
    let h = c.loop-index.invariant in
    let in_net : p.index < length net.places = rw c.places-place-items.ensures.value at c.loop-index-test.true in
    let item : c.place-item.result ≡ place_at net p =
    rw c.places-place-items.ensures.value at (get_or_read c.places-place-items.result.now p.index c.place-item.result
    c.loop-index-test.true c.place-item.is no_place) in
    elim c.if-is_inside.branch [
      | then-is_inside+then-index-offered w ↦
          let both : IsMember parts part (from_of net p) × IsMember parts part (to_of net p) = rw item at (c.is_inside.ensures.0 w.if-is_inside.true) in
          let inside : IsPlaceOfPart net parts part p = record { in_range = in_net; from_member = both.0; to_member = both.1 } in
          let begins : IsBeginning net parts part (set c.loop-index.policy.items c.place-item.result.to.index p) =
          subst (λ (q : Place). IsBeginning net parts part (set c.loop-index.policy.items q.to.index p)) (sym item) (begins_so net parts part c.loop-index.policy.items p h.begins inside) in
          rw (w.policy-is, w.greatest-is) (record { begins = begins; count = length-set c.loop-index.greatest.items c.place-item.result.to.index _ ∙ h.count })
      | then-is_inside+else-index-offered w ↦ rw (w.policy-is, w.greatest-is) h
      | else-is_inside w ↦ rw (w.policy-is, w.greatest-is) h
    ]
