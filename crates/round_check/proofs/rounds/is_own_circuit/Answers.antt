use Rattle.teg_net.proofs.PathLaws.{IsPathBetween-in_range}
use Rattle.round_check.proofs.rounds.is_own_circuit.Goals as goal

pub root_of-requires-clause-range : goal.root_of-requires-clause-range
root_of-requires-clause-range c = let h = c.requires in IsPathBetween-in_range c.args.part.now.net.now c.args.circuit.now h.closed.0 h.closed.0 h.closed.1

pub are_from-requires : goal.are_from-requires
are_from-requires c = let h = c.requires in IsPathBetween-in_range c.args.part.now.net.now c.args.circuit.now h.closed.0 h.closed.0 h.closed.1
