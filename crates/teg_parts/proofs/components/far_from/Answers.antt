use Rattle.std.proofs.Common.{◌≡◌, ap, ◌∙◌}
use Rattle.teg_net.proofs.Reading.{read_place}
use Rattle.teg_parts.specs.PlacesAlong.{far_in, far_of}
use Rattle.teg_parts.proofs.Reaching.{far_in_net}
use Rattle.teg_parts.proofs.components.far_from.Goals as goal

pub returns : goal.returns
returns c =
    let net = c.args.net.now in
    let near = c.args.near in
    let p = c.args.id in
    let is : c.far_end.result ≡ far_of near net p = c.far_end.ensures
    ∙ ap (far_in near) (read_place net c.places.result.now p c.index-places-id.result c.places.ensures.value c.requires c.index-places-id.is) in
    record { value = is; bound = rw is (far_in_net net near c.places.ensures.rules p c.requires) }
