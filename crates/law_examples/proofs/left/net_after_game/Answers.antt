use Rattle.state_laws.specs.NetsLeft.{IsNetAfter}
use Rattle.teg_model.proofs.OfNet.{net_ends}
use Rattle.law_examples.proofs.left.net_after_game.Goals as goal

pub returns : goal.returns
returns c x least =
    let ends = net_ends c.args.net.now c.rules.ensures in
    let live = c.ranked_nets_are_live.ensures c.args.net.now c.args.live.now c.requires.live in
    let after : IsNetAfter c.args.net.now c.args.game.now.run c.args.now c.in_ok-rest.rest = rw c.run.ensures at c.in_ok-rest.ensures.net in
    c.legal_runs_go_on.ensures.goes_on c.args.net.now c.args.game.now.run c.args.now c.in_ok-rest.rest x ends live
    c.requires.fed c.requires.game.legal c.requires.over after least
