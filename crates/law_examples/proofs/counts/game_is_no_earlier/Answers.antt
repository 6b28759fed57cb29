use Rattle.teg_model.proofs.OfNet.{net_ends}
use Rattle.law_examples.proofs.counts.game_is_no_earlier.Goals as goal

pub returns : goal.returns
returns c x f e =
    c.earliest_runs_are_first.ensures c.args.net.now x c.args.most c.args.run.now c.args.game.now.run (net_ends c.args.net.now c.rules.ensures)
    (c.ranked_nets_are_live.ensures c.args.net.now c.args.live.now c.requires.live) f e c.requires.game.legal
