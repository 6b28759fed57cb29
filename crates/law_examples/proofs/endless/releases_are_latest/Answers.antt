use Rattle.teg_model.proofs.OfNet.{net_ends}
use Rattle.endless_due.specs.EndlessRows.{due_on}
use Rattle.law_examples.proofs.endless.releases_are_latest.Goals as goal

pub returns : goal.returns
returns c v inputs meet walks =
    (c.shown_inputs_are_latest.ensures c.args.net.now (net_ends c.args.net.now c.rules.ensures) (due_on c.args.rows.now) v inputs meet walks).0
