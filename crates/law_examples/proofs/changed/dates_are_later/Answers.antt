use Rattle.change_laws.proofs.Changing.{ready_of_tokens}
use Rattle.teg_model.proofs.OfNet.{net_ends}
use Rattle.law_examples.proofs.changed.dates_are_later.Goals as goal

pub returns : goal.returns
returns c =
    c.dates_rise_with_the_net.ensures c.args.before.now c.args.after.now (net_ends c.args.after.now c.rules.ensures) (ready_of_tokens c.args.after.now c.rules.ensures)
    c.requires.slower
