use Rattle.std.proofs.Common.{arith}
use Rattle.std.proofs.lemmas.Nat.{mul-le}
use Rattle.teg_net.specs.Limits.{greatest_circuit_time, most_circuit_tokens}
use Rattle.round_check.proofs.circuits.is_at_most.Goals as goal

pub overflow_mul-left : goal.overflow_mul-left
overflow_mul-left c =
    let m = mul-le c.args.found.time c.args.bound.tokens greatest_circuit_time most_circuit_tokens c.requires.time c.requires.bound.tokens_in in
    omega (arith, m)

pub overflow_mul-right : goal.overflow_mul-right
overflow_mul-right c =
    let m = mul-le c.args.bound.time c.args.found.tokens greatest_circuit_time most_circuit_tokens c.requires.bound.time_in c.requires.tokens in
    omega (arith, m)
