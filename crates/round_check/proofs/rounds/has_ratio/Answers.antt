use Rattle.std.proofs.Common.{◌≤◌, arith}
use Rattle.std.proofs.lemmas.Nat.{mul-le}
use Rattle.teg_net.specs.Limits.{greatest_circuit_time, most_circuit_tokens}
use Rattle.teg_net.proofs.PathLaws.{IsPathBetween-in_range}
use Rattle.teg_certificates.proofs.Short.{circuit_sums}
use Rattle.round_check.proofs.rounds.has_ratio.Goals as goal

pub time_of-requires : goal.time_of-requires
time_of-requires c = let h = c.requires in IsPathBetween-in_range c.args.net.now c.args.circuit.now h.closed.0 h.closed.0 h.closed.1

pub tokens_of-requires : goal.tokens_of-requires
tokens_of-requires c = let h = c.requires in IsPathBetween-in_range c.args.net.now c.args.circuit.now h.closed.0 h.closed.0 h.closed.1

pub overflow_mul-result : goal.overflow_mul-result
overflow_mul-result c =
    let s = circuit_sums c.args.net.now c.rules.ensures c.args.circuit.now c.requires in
    let low : c.time_of.result ≤ greatest_circuit_time = omega (arith, s.0, c.time_of.ensures.value) in
    let small : c.from.result ≤ 18446744073709551616 = omega arith in
    let m = mul-le c.time_of.result c.from.result greatest_circuit_time 18446744073709551616 low small in
    omega (arith, m)

pub overflow_mul-result-2 : goal.overflow_mul-result-2
overflow_mul-result-2 c =
    let s = circuit_sums c.args.net.now c.rules.ensures c.args.circuit.now c.requires in
    let few : c.tokens_of.result ≤ most_circuit_tokens = omega (arith, s.1, c.tokens_of.ensures.value) in
    let small : c.from-2.result ≤ 18446744073709551616 = omega arith in
    let m = mul-le c.from-2.result c.tokens_of.result 18446744073709551616 most_circuit_tokens small few in
    omega (arith, m)
