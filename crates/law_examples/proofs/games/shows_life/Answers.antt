use Rattle.teg_model.proofs.OfNet.{net_ends}
use Rattle.law_examples.proofs.games.shows_life.Goals as goal

pub returns : goal.returns
returns c =
    c.token_free_circuits_never_fire.ensures.life c.args.net.now c.args.game.now.run (net_ends c.args.net.now c.requires.game.rules) c.requires.game.legal c.requires.fired
