use Rattle.teg_parts.proofs.NumberingSteps.{GivenTo}
use Rattle.teg_parts.proofs.numbering.give_number.Given as goal

abbrev pub invariant-loop-transition : goal.invariant-loop-transition
invariant-loop-transition l = GivenTo l.components l.initial.numbers l.numbers l.component l.number l.transition
