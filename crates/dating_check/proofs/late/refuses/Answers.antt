use Rattle.teg_model.proofs.OfNet.{net_ends}
use Rattle.dating_check.proofs.late.refuses.Goals as goal

pub returns-clause-no_earlier : goal.returns-clause-no_earlier
returns-clause-no_earlier c y =
    let late = c.args.late in
    c.late_walks_refuse.ensures.bound c.args.net.now (net_ends c.args.net.now c.rules.ensures) late.transition.index late.number late.start late.least
    c.args.walk.now (c.is_late.ensures.walk y)

pub returns-clause-refused : goal.returns-clause-refused
returns-clause-refused c y due told v meets =
    let late = c.args.late in
    c.late_walks_refuse.ensures.refuse c.args.net.now (net_ends c.args.net.now c.rules.ensures) due late.transition.index late.number late.start late.least late.due
    c.args.walk.now (c.is_late.ensures.walk y) told (c.is_late.ensures.late y) v meets
