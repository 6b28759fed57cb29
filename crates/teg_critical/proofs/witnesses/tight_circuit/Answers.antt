use Rattle.teg_critical.proofs.WitnessLaws.{tight_reached, lacks_by}
use Rattle.teg_critical.proofs.witnesses.tight_circuit.Goals as goal

pub circuit_back-requires-clause-reached : goal.circuit_back-requires-clause-reached
circuit_back-requires-clause-reached c =
    rw c.deref-3.ensures.value
    (tight_reached c.args.net.now c.args.raised.now c.requires.can c.args.heights.now c.requires.heights c.requires.settled c.in_ok-tight.tight.items c.in_ok-tight.ensures
    c.in_ok-hops.hops.items (rw c.deref.ensures.value at c.in_ok-hops.ensures.hops) (rw c.deref.ensures.value at c.in_ok-hops.ensures.closed))

pub returns : goal.returns
returns c =
    lacks_by c.args.net.now c.args.raised.now c.requires.can c.args.heights.now c.requires.heights c.requires.settled c.in_ok-tight.tight.items c.in_ok-tight.ensures
    c.in_ok-places.places.items c.in_ok-places.ensures.circuit (rw c.deref-2.ensures.value at c.in_ok-places.ensures.usable)
