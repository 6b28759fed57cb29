use Rattle.std.proofs.Common.{arith}
use Rattle.round_check.specs.Offers.{values_at}
use Rattle.round_check.proofs.Offering.{most_past}
use Rattle.round_check.proofs.policies.most_into.Goals as goal

pub returns : goal.returns
returns c =
    let part = c.args.part.now in
    let past = rw c.places-index-end.ensures.value at c.loop-index-test.false in
    most_past part.net.now part.parts.now part.number c.args.ratio.time c.args.ratio.tokens (values_at c.args.values.now) c.args.transition c.loop-index.index
    c.loop-index.most (omega (arith, past)) c.loop-index.invariant
