use Rattle.teg_critical.proofs.WitnessLaws.{critical_by, rise_by}
use Rattle.teg_critical.proofs.witnesses.witness_by.Goals as goal

pub returns-then-raised-eq0 : goal.returns-then-raised-eq0
returns-then-raised-eq0 c = critical_by c.args.net.now c.args.raised.now c.requires.can c.in_ok-circuit.circuit.places.items c.in_ok-circuit.ensures c.if-raised-eq0.true

pub returns : goal.returns
returns c =
    rw c.tokens.ensures.value
    (rise_by c.args.net.now c.args.raised.now c.requires.can c.in_ok-circuit.circuit.places.items c.in_ok-circuit.ensures c.if-raised-eq0.false
    c.in_ok-heights.heights.items c.in_ok-heights.ensures.heights c.in_ok-heights.ensures.settled c.in_ok-potentials.potentials.items (rw c.deref-2.ensures.value at c.in_ok-potentials.ensures))
