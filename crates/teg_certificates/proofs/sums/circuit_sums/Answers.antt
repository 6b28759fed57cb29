use Rattle.teg_net.proofs.PathLaws.{IsPathBetween-in_range}
use Rattle.teg_certificates.proofs.Short.{circuit_sums}
use Rattle.teg_certificates.proofs.sums.circuit_sums.Goals as goal

pub time_of-requires : goal.time_of-requires
time_of-requires c = let h = c.requires in IsPathBetween-in_range c.args.net.now c.args.circuit.now h.closed.0 h.closed.0 h.closed.1

pub tokens_of-requires : goal.tokens_of-requires
tokens_of-requires c = let h = c.requires in IsPathBetween-in_range c.args.net.now c.args.circuit.now h.closed.0 h.closed.0 h.closed.1

pub returns-clause-short : goal.returns-clause-short
returns-clause-short c = rw c.time_of.ensures.value (circuit_sums c.args.net.now c.rules.ensures c.args.circuit.now c.requires).0

pub returns-clause-few : goal.returns-clause-few
returns-clause-few c = rw c.tokens_of.ensures.value (circuit_sums c.args.net.now c.rules.ensures c.args.circuit.now c.requires).1
