use Rattle.std.proofs.Common.{◌*◌, ◌≤◌, ◌≡◌, arith}
use Rattle.std.specs.Prelude.{pos, ◌-ℤ◌}
use Rattle.std.proofs.lemmas.Int.{ints}
use Rattle.std.proofs.lemmas.Nat.{mul-le}
use Rattle.round_check.proofs.policies.reduced_at.Goals as goal

pub returns-clause-within : goal.returns-clause-within
returns-clause-within c =
    let a = c.args.ratio.time in
    let b = c.args.ratio.tokens in
    let hold = c.args.place.now.hold in
    let tokens = c.args.place.now.tokens in
    let gain : b * hold ≤ 400000 * 1000000000 = mul-le b hold 400000 1000000000 c.requires.ratio.tokens_in c.requires.hold in
    let loss : a * tokens ≤ 400000000000 * 1000 = mul-le a tokens 400000000000 1000 c.requires.ratio.time_in c.requires.tokens in
    let value : c.reduced.result ≡ (pos (b * hold) -ℤ pos (a * tokens)) = c.reduced.ensures in
    record { low = omega (arith, ints, gain, loss, value); high = omega (arith, ints, gain, loss, value) }
