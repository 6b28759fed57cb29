use Rattle.std.specs.Prelude.{pos}
use Rattle.teg_due.specs.RowRules.{due_in}
use Rattle.teg_model.proofs.OfNet.{net_ends}
use Rattle.teg_model.specs.dioid.declared.dates.Date.TheVariants.{At}
use Rattle.law_examples.proofs.plans.walk_bounds.Goals as goal

pub returns : goal.returns
returns c =
    c.tight_walks_bound.ensures c.args.net.now (net_ends c.args.net.now c.rules.ensures) (due_in c.args.due.now.rows.items)
    c.args.transition.index c.args.number (At (pos c.args.date)) c.args.walk.now c.requires.tight
