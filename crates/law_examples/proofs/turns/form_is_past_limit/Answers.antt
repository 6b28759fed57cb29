use Rattle.teg_model.proofs.OfNet.{net_ends}
use Rattle.law_examples.proofs.turns.form_is_past_limit.Goals as goal

pub returns : goal.returns
returns c x step least moves late =
    c.forms_come_after_jumps.ensures.limit c.args.net.now (net_ends c.args.net.now c.rules.ensures) x least c.args.window.now.after c.args.window.now.turn c.args.window.now.last c.args.turns c.args.limit step moves late
    c.requires.wide
