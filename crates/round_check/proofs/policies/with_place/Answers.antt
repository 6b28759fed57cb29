use Rattle.std.proofs.Common.{refl, rules}
use Rattle.std.proofs.lemmas.Bool.{iff_false}
use Rattle.round_check.specs.Offers.{values_at}
use Rattle.round_check.proofs.Offering.{most_skip, most_take}
use Rattle.round_check.proofs.policies.with_place.Goals as goal

pub returns-then-not-enters : goal.returns-then-not-enters
returns-then-not-enters c =
    let part = c.args.part.now in
    most_skip part.net.now part.parts.now part.number c.args.ratio.time c.args.ratio.tokens (values_at c.args.values.now) c.args.transition c.args.id.index c.args.id
    c.args.most refl (iff_false c.enters.ensures c.if-not-enters.true) c.requires.most

pub returns : goal.returns
returns c =
    let part = c.args.part.now in
    most_take part.net.now part.parts.now part.number c.args.ratio.time c.args.ratio.tokens (values_at c.args.values.now) c.args.transition c.args.id.index c.args.most
    _ _ refl (c.enters.ensures.0 c.if-not-enters.false) (search rules) c.greater_of.ensures c.requires.most
