use Rattle.law_examples.proofs.BetweenForms.{between_forms}
use Rattle.teg_model.proofs.OfNet.{net_ends}
use Rattle.law_examples.proofs.bounds.dates_are_between_forms.Goals as goal

pub returns : goal.returns
returns c holds x =
    let live = c.ranked_nets_are_live.ensures c.args.high.now c.args.live.now c.requires.live in
    between_forms c.varying_holds_lie_between.ensures.holds c.forms_tell_dates.ensures c.args.low.now c.args.high.now
    (net_ends c.args.high.now c.rules.ensures) live c.requires.inputs c.args.earliest.now c.args.latest.now c.requires.earliest c.requires.latest holds x
