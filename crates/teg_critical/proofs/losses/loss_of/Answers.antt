use Rattle.std.proofs.Common.{◌≡◌}
use Rattle.std.proofs.lemmas.List.{get_or_read}
use Rattle.teg_net.specs.declared.answers.PartAnswer.TheVariants.{NoCircuit}
use Rattle.teg_net.proofs.Reading.{read_place}
use Rattle.teg_critical.specs.Losses.{answer_of_part}
use Rattle.teg_critical.proofs.LossFacts.{part_low, can_lose_in, is_loss}
use Rattle.teg_critical.proofs.losses.loss_of.Goals as goal

pub loss_in-requires : goal.loss_in-requires
loss_in-requires c =
    let net = c.args.net.now in
    let answer = c.args.answer.now in
    let certificate = c.requires.certificate in
    let part = c.in_ok-part.part in
    let inside = c.in_ok-part.ensures.inside in
    let told : c.index.result.now ≡ answer_of_part answer part =
    get_or_read answer.parts.items part c.index.result.now (part_low net answer certificate c.args.place part inside) c.index.ensures NoCircuit in
    let place = read_place net c.places.result.now c.args.place c.index-places-place.result c.places.ensures.value c.requires.place c.index-places-place.is in
    rw (told, place) (can_lose_in net answer certificate c.args.best c.requires.best c.places.ensures.rules c.args.place part inside)

pub returns : goal.returns
returns c =
    let net = c.args.net.now in
    let answer = c.args.answer.now in
    let part = c.in_ok-part.part in
    let inside = c.in_ok-part.ensures.inside in
    let told : c.index.result.now ≡ answer_of_part answer part =
    get_or_read answer.parts.items part c.index.result.now (part_low net answer c.requires.certificate c.args.place part inside) c.index.ensures NoCircuit in
    let place = read_place net c.places.result.now c.args.place c.index-places-place.result c.places.ensures.value c.requires.place c.index-places-place.is in
    is_loss net answer c.args.best c.args.place part inside c.loss_in.result (rw (told, place) at c.loss_in.ensures)
