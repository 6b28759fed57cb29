use Rattle.std.proofs.Common.{arith}
use Rattle.teg_net.specs.Circuits.{place_at}
use Rattle.teg_net.proofs.PathLaws.{IsPathBetween-in_range}
use Rattle.teg_net.proofs.Turning.{turned_circuit, turned_sum, turned_lowest}
use Rattle.teg_net.proofs.circuits.Circuit.begin_lowest.Goals as goal

pub lowest_position-lowest-requires-clause-in_range :
    goal.lowest_position-lowest-requires-clause-in_range
lowest_position-lowest-requires-clause-in_range c =
    rw c.deref.ensures.value (IsPathBetween-in_range c.args.net.now c.args.self.now.places.items c.requires.closed.0 c.requires.closed.0 c.requires.closed.1)

pub returns-clause-circuit : goal.returns-clause-circuit
returns-clause-circuit c =
    let low = rw c.deref.ensures.value at c.lowest_position-lowest.ensures in
    rw c.rotate_left.ensures.items (turned_circuit c.args.net.now c.args.self.now.places.items c.lowest_position-lowest.result (omega (arith, low.0)) c.requires)

pub returns-clause-tokens : goal.returns-clause-tokens
returns-clause-tokens c = rw c.rotate_left.ensures.items (turned_sum (λ p. (place_at c.args.net.now p).tokens) c.args.self.now.places.items c.lowest_position-lowest.result)

pub returns-clause-time : goal.returns-clause-time
returns-clause-time c = rw c.rotate_left.ensures.items (turned_sum (λ p. (place_at c.args.net.now p).hold) c.args.self.now.places.items c.lowest_position-lowest.result)

pub returns-clause-lowest : goal.returns-clause-lowest
returns-clause-lowest c =
    let low = rw c.deref.ensures.value at c.lowest_position-lowest.ensures in
    rw c.rotate_left.ensures.items (turned_lowest c.args.net.now c.args.self.now.places.items c.lowest_position-lowest.result low)
