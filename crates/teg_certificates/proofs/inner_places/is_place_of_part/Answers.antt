use Rattle.std.proofs.Common.{◌≡◌, ◌<◌, length, arith}
use Rattle.std.proofs.lemmas.List.{get_or_read}
use Rattle.teg_net.specs.Circuits.{no_place, place_at, from_of}
use Rattle.teg_net.specs.Parts.{IsMember, to_of}
use Rattle.teg_certificates.proofs.inner_places.is_place_of_part.Goals as goal

pub returns : goal.returns
returns c =
    let net = c.args.part.now.net.now in
    let part_of = c.args.part.now.part_of.now in
    let id = c.args.id in
    let own_in : id.index < length c.places-own.result.now = omega arith in
    let in_net : id.index < length net.places = rw c.places-own.ensures.value at own_in in
    let item : c.index-own-index.result ≡ place_at net id =
    rw c.places-own.ensures.value at (get_or_read c.places-own.result.now id.index c.index-own-index.result own_in c.index-own-index.is no_place) in (
      λ t.
          let both : IsMember part_of c.args.part.now.number (from_of net id) × IsMember part_of c.args.part.now.number (to_of net id) = rw item at (c.is_inner.ensures.0 t) in
          record { in_range = in_net; from_member = both.0; to_member = both.1 },
      λ q. c.is_inner.ensures.1 (rw item (q.from_member, q.to_member)),
    )
