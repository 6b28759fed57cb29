use Rattle.std.proofs.Common.{sym, ◌∙◌}
use Rattle.teg_net.proofs.Reading.{read_place}
use Rattle.teg_critical.proofs.LossFacts.{in_part}
use Rattle.teg_critical.proofs.losses.part_of_place.Goals as goal

pub returns-then-part_of_transition-part-clause-inside : goal.returns-then-part_of_transition-part-clause-inside
returns-then-part_of_transition-part-clause-inside c =
    let net = c.args.net.now in
    let place = read_place net c.places.result.now c.args.place c.index-places-place.result c.places.ensures.value c.requires.place c.index-places-place.is in
    in_part net c.args.answer.now c.requires.certificate c.places.ensures.rules c.args.place c.part_of_transition-part.result c.requires.place
    (sym (rw place at c.part_of_transition-part.ensures)) (sym (rw place at c.part_of_transition.ensures) ∙ c.if-part_of_transition-part.true)

pub returns-else-part_of_transition-part-clause-apart : goal.returns-else-part_of_transition-part-clause-apart
returns-else-part_of_transition-part-clause-apart c =
    let place = read_place c.args.net.now c.places.result.now c.args.place c.index-places-place.result c.places.ensures.value c.requires.place c.index-places-place.is in
    λ same. c.if-part_of_transition-part.false (rw place at c.part_of_transition.ensures ∙ sym same ∙ sym (rw place at c.part_of_transition-part.ensures))
