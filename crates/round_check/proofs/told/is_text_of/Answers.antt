use Rattle.pace_check.proofs.Paces.{part_is_named}
use Rattle.round_check.proofs.told.is_text_of.Goals as goal

pub cycle_text-requires-clause-answer : goal.cycle_text-requires-clause-answer
cycle_text-requires-clause-answer c =
    let net = c.args.net.now in
    let answer = c.args.answer.now in
    let k = part_is_named answer.parts.items answer.best c.args.ratio c.requires.best in
    c.certificates_can_be_told.ensures net answer k.0 c.requires.certificate k.1
