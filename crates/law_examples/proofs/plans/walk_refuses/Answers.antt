use Rattle.teg_due.specs.RowRules.{due_in}
use Rattle.teg_model.proofs.OfNet.{net_ends}
use Rattle.law_examples.proofs.plans.walk_refuses.Goals as goal

pub returns : goal.returns
returns c =
    c.late_walks_refuse.ensures.refuse c.args.net.now (net_ends c.args.net.now c.rules.ensures) (due_in c.args.due.now.rows.items)
    c.args.transition.index c.args.number c.args.start c.args.date c.args.row c.args.walk.now c.requires.late c.requires.row c.requires.past
