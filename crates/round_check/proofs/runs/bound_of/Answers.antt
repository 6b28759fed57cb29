use Rattle.std.proofs.Common.{arith}
use Rattle.teg_net.proofs.PathLaws.{IsPathBetween-in_range}
use Rattle.teg_certificates.proofs.Short.{circuit_sums}
use Rattle.round_check.proofs.runs.bound_of.Goals as goal

pub time_of-requires : goal.time_of-requires
time_of-requires c = let h = c.requires in IsPathBetween-in_range c.args.net.now c.args.circuit.now h.closed.0 h.closed.0 h.closed.1

pub tokens_of-requires : goal.tokens_of-requires
tokens_of-requires c = let h = c.requires in IsPathBetween-in_range c.args.net.now c.args.circuit.now h.closed.0 h.closed.0 h.closed.1

pub root_of-requires-clause-range : goal.root_of-requires-clause-range
root_of-requires-clause-range c = let h = c.requires in IsPathBetween-in_range c.args.net.now c.args.circuit.now h.closed.0 h.closed.0 h.closed.1

pub returns : goal.returns
returns c =
    let s = circuit_sums c.args.net.now c.rules.ensures c.args.circuit.now c.requires in
    record {
      time = c.time_of.ensures.value;
      tokens = c.tokens_of.ensures.value;
      first = c.root_of.ensures;
      small = record {
        time_in = omega (arith, s.0, c.time_of.ensures.value);
        tokens_in = omega (arith, s.1, c.tokens_of.ensures.value);
      };
    }
