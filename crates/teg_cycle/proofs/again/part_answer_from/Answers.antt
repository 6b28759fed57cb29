use Rattle.teg_cycle.proofs.Telling.{answer_certifies}
use Rattle.teg_cycle.proofs.Gathering.{marked, unmarked}
use Rattle.teg_cycle.proofs.again.part_answer_from.Goals as goal

pub last_round_from-requires-clause-circuit : goal.last_round_from-requires-clause-circuit
last_round_from-requires-clause-circuit c = marked c.args.net.now c.args.parts.now c.requires.parts c.args.part c.requires.part _ c.has_circuit.ensures c.if-not-has_circuit.false

pub returns-then-not-has_circuit-clause-answer : goal.returns-then-not-has_circuit-clause-answer
returns-then-not-has_circuit-clause-answer c = unmarked c.args.net.now c.args.parts.now c.requires.parts c.args.part c.requires.part _ c.has_circuit.ensures c.if-not-has_circuit.true

pub returns-clause-certificate : goal.returns-clause-certificate
returns-clause-certificate c =
    let e = c.in_ok-answer.ensures in
    answer_certifies c.args.net.now c.args.parts.now.part_of c.args.part c.in_ok-answer.answer e.best e.limits e.told
