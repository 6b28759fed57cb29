use Rattle.dioid_spectra.proofs.PowerLaws.{next_is_power, next_misfits}
use Rattle.dioid_spectra.proofs.powers.next_power.Goals as goal

pub returns-in-Ok-clause-power : goal.returns-in-Ok-clause-power
returns-in-Ok-clause-power g c =
    next_is_power g.D.Dioid c.args.matrix.now c.args.power.now c.args.before c.requires.square c.requires.power c.in-Ok.next c.in-Ok.ensures.answer

pub returns-in-Err-Range-clause-refused : goal.returns-in-Err-Range-clause-refused
returns-in-Err-Range-clause-refused g c =
    let answer = rw c.in-Err-Range.field-0-is at c.in-Err-Range.ensures.answer in
    next_misfits g.D.Dioid c.args.matrix.now c.args.power.now c.args.before c.requires.square c.requires.power c.args.exponent c.in-Err-Range.step c.in-Err-Range.row c.in-Err-Range.column
    c.requires.within answer.1 answer.2
