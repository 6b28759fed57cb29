use Rattle.std.proofs.Common.{sym, arith}
use Rattle.round_check.proofs.Choosing.{none_chosen, choice_found, choice_missing}
use Rattle.round_check.proofs.choices.choice_for.Goals as goal

pub returns-then-choice-transition : goal.returns-then-choice-transition
returns-then-choice-transition c =
    sym (choice_found c.args.choices.now c.args.transition c.loop-choice.choice-index none_chosen c.loop-choice-test.true
    (λ k l. c.loop-choice.invariant k none_chosen l) c.if-choice-transition.true)

pub returns : goal.returns
returns c = sym (choice_missing c.args.choices.now c.args.transition none_chosen (λ k l. c.loop-choice.invariant k none_chosen (omega (arith, c.loop-choice-test.false, l))))
