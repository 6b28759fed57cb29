use Rattle.law_examples.proofs.FormTurns.{ranks_of}
use Rattle.teg_model.proofs.OfNet.{net_ends}
use Rattle.state_laws.specs.NetsLeft.{system_from}
use Rattle.law_examples.proofs.turns.dates_move_on_from.Goals as goal

pub returns : goal.returns
returns c x step pace least =
    let live = c.ranked_nets_are_live.ensures c.args.net.now c.args.live.now c.requires.live in
    let ranks = ranks_of c.args.net.now (net_ends c.args.net.now c.rules.ensures) live in
    c.dates_jump_in.ensures.jump (system_from c.args.net.now c.args.now) ranks x least c.args.window.now.after c.args.window.now.turn c.args.window.now.last c.args.turns step pace
