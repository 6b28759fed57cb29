use Rattle.teg_cycle.proofs.Telling.{answer_certifies, run_tells}
use Rattle.teg_cycle.proofs.Gathering.{marked, unmarked, run_ends}
use Rattle.teg_cycle.proofs.cycle_time.part_answer.Goals as goal

pub last_round-requires-clause-circuit : goal.last_round-requires-clause-circuit
last_round-requires-clause-circuit c = marked c.args.net.now c.args.parts.now c.requires.parts c.args.part c.requires.part _ c.has_circuit.ensures c.if-not-has_circuit.false

pub returns-then-not-has_circuit-clause-answer : goal.returns-then-not-has_circuit-clause-answer
returns-then-not-has_circuit-clause-answer c = unmarked c.args.net.now c.args.parts.now c.requires.parts c.args.part c.requires.part _ c.has_circuit.ensures c.if-not-has_circuit.true

pub returns-clause-certificate : goal.returns-clause-certificate
returns-clause-certificate c =
    let p = c.args.parts.now in
    let a = c.in_ok-answer.answer in
    let e = c.in_ok-answer.ensures in
    answer_certifies c.args.net.now p.part_of c.args.part a e.best e.limits (run_tells c.args.net.now p.part_of c.args.part e.run.0 a e.run.1 e.run.2)

pub returns-clause-run : goal.returns-clause-run
returns-clause-run c = run_ends c.args.net.now c.args.parts.now.part_of c.args.part c.in_ok-answer.answer c.in_ok-answer.ensures.run
