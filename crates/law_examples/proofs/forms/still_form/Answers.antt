use Rattle.teg_model.proofs.OfNet.{net_ends}
use Rattle.law_examples.proofs.forms.still_form.Goals as goal

pub returns-clause-after : goal.returns-clause-after
returns-clause-after c =
    (c.still_nets_settle_at_once.ensures.settled c.args.net.now (net_ends c.args.net.now c.rules.ensures) c.requires.no_input c.requires.reaches c.requires.still
    c.requires.ready c.args.form.now c.requires.form).0

pub returns-clause-period : goal.returns-clause-period
returns-clause-period c =
    (c.still_nets_settle_at_once.ensures.settled c.args.net.now (net_ends c.args.net.now c.rules.ensures) c.requires.no_input c.requires.reaches c.requires.still
    c.requires.ready c.args.form.now c.requires.form).1
