use Rattle.teg_cycle.proofs.Telling.{answer_certifies, run_tells}
use Rattle.teg_cycle.proofs.Gathering.{marked, unmarked, run_told}
use Rattle.teg_cycle.proofs.cycle_time.part_run.Goals as goal

pub howard-requires-clause-circuit : goal.howard-requires-clause-circuit
howard-requires-clause-circuit c = marked c.args.net.now c.args.parts.now c.requires.parts c.args.part c.requires.part _ c.has_circuit.ensures c.if-not-has_circuit.false

pub returns-then-not-has_circuit-clause-answer : goal.returns-then-not-has_circuit-clause-answer
returns-then-not-has_circuit-clause-answer c = unmarked c.args.net.now c.args.parts.now c.requires.parts c.args.part c.requires.part _ c.has_circuit.ensures c.if-not-has_circuit.true

pub returns-clause-certificate : goal.returns-clause-certificate
returns-clause-certificate c =
    let p = c.args.parts.now in
    let e = c.in_ok-answer.ensures in
    answer_certifies c.args.net.now p.part_of c.args.part c.in_ok-answer.answer e.best e.limits
    (run_tells c.args.net.now p.part_of c.args.part c.in_ok-answer.rounds.items c.in_ok-answer.answer e.run e.answer)

pub returns-clause-run : goal.returns-clause-run
returns-clause-run c =
    let p = c.args.parts.now in
    let e = c.in_ok-answer.ensures in
    run_told c.args.net.now p.part_of c.args.part c.in_ok-answer.answer c.in_ok-answer.rounds.items e.run e.answer
