use Rattle.std.proofs.Common.{◌≡◌, length, arith}
use Rattle.std.proofs.lemmas.Int.{to_z-of_z}
use mir.Val.{to_z, of_z}
use mir.Syntax.{w128}
use Rattle.policy_rounds.proofs.BestCircuits.{fits_within}
use Rattle.round_check.specs.Offers.{values_at}
use Rattle.round_check.proofs.Offering.{better_none, better_is}
use Rattle.round_check.proofs.policies.better_into.Goals as goal

pub returns-in_default : goal.returns-in_default
returns-in_default c =
    let part = c.args.part.now in
    better_none part.net.now part.parts.now part.number c.args.ratio.time c.args.ratio.tokens (values_at c.args.values.now) c.args.transition c.args.own
    (length part.net.now.places) (omega arith) c.in_default.ensures

pub returns : goal.returns
returns c =
    let part = c.args.part.now in
    let z = values_at c.args.values.now c.args.transition in
    let same : to_z w128 (of_z w128 z) ≡ z = to_z-of_z w128 z (fits_within z (c.requires.within c.args.transition)) in
    better_is part.net.now part.parts.now part.number c.args.ratio.time c.args.ratio.tokens (values_at c.args.values.now) c.args.transition c.args.own
    (length part.net.now.places) c.in-Some.most c.better_of.result (omega arith) c.in-Some.ensures (rw same at c.better_of.ensures.more) (rw same at c.better_of.ensures.rest)
