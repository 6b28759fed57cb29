use Rattle.std.proofs.Common.{refl, rules}
use Rattle.round_check.proofs.Telling.{all_runs, has_rounds, none_told_yet}
use Rattle.round_check.proofs.others.first_other.Goals as goal

pub loop-number-init : goal.loop-number-init
loop-number-init c = (refl, none_told_yet c.args.net.now c.args.answer.now.parts.items c.args.runs.now c.requires.told)

pub other_in-requires-clause-told : goal.other_in-requires-clause-told
other_in-requires-clause-told c = λ some.
    has_rounds c.args.net.now c.args.answer.now.parts.items c.args.runs.now c.loop-number.number c.loop-number.told (search rules) c.requires.told c.loop-number.invariant.1 some

pub returns-clause-none : goal.returns-clause-none
returns-clause-none c =
    all_runs c.args.net.now c.args.answer.now.part_of.items c.args.answer.now.parts.items c.args.runs.now c.loop-number.number c.loop-number.told
    (search rules) c.loop-number.invariant.0 c.loop-number.invariant.1
