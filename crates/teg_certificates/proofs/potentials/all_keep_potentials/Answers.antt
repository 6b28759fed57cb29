use Rattle.std.proofs.Common.{◌≡◌, ◌<◌, ◌≤◌, true, false, length, refl, arith, below_more}
use Rattle.std.proofs.lemmas.Bool.{false≢true, iff_false}
use Rattle.std.proofs.lemmas.List.{get_or_read}
use Rattle.teg_net.specs.declared.entries.PlaceId.{PlaceId}
use Rattle.teg_net.specs.Circuits.{no_place, place_at, from_of}
use Rattle.teg_net.specs.Parts.{IsMember, to_of}
use Rattle.teg_certificates.specs.Checks.{KeepsPotential}
use Rattle.teg_certificates.proofs.potentials.all_keep_potentials.Goals as goal

pub loop-place-preserved : goal.loop-place-preserved
loop-place-preserved c =
    let net = c.args.part.now.net.now in
    let part_of = c.args.part.now.part_of.now in
    let i = c.loop-place.place-index in
    let p : PlaceId = record { index = i } in
    let own_in = c.loop-place-test.true in
    let item : c.place-item.result ≡ place_at net p = rw c.places-place-items.ensures.value at (get_or_read c.places-place-items.result.now i c.place-item.result own_in c.place-item.is no_place) in
    let here : KeepsPotential part_of c.args.part.now.number c.args.ratio c.args.potentials.now (place_at net p) = rw item at (c.keeps_potential.ensures.0 c.if-not-keeps_potential.false) in
    below_more _ _ c.loop-place.invariant here

pub returns-then-not-keeps_potential : goal.returns-then-not-keeps_potential
returns-then-not-keeps_potential c =
    let net = c.args.part.now.net.now in
    let part_of = c.args.part.now.part_of.now in
    let i = c.loop-place.place-index in
    let p : PlaceId = record { index = i } in
    let own_in = c.loop-place-test.true in
    let item : c.place-item.result ≡ place_at net p = rw c.places-place-items.ensures.value at (get_or_read c.places-place-items.result.now i c.place-item.result own_in c.place-item.is no_place) in
    let in_net : i < length net.places = rw c.places-place-items.ensures.value at own_in in (
      λ (e : false ≡ true). absurd (false≢true e),
      λ h. absurd (iff_false c.keeps_potential.ensures c.if-not-keeps_potential.true
          (rw item (λ (f : IsMember part_of c.args.part.now.number (from_of net p)) (g : IsMember part_of c.args.part.now.number (to_of net p)). h p
          (record { in_range = in_net; from_member = f; to_member = g })))),
    )

pub returns : goal.returns
returns c =
    let past : length c.args.part.now.net.now.places ≤ c.loop-place.place-index = rw c.places-place-items.ensures.value at c.loop-place-test.false in
    (λ t p q. let l = q.in_range in c.loop-place.invariant p.index (omega arith) q.from_member q.to_member, λ h. refl)
