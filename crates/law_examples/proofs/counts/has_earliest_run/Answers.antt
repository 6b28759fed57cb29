use Rattle.teg_model.proofs.OfNet.{net_ends}
use Rattle.law_examples.proofs.counts.has_earliest_run.Goals as goal

pub returns : goal.returns
returns c x f =
    c.earliest_runs_exist.ensures.exist c.args.net.now x c.args.most (net_ends c.args.net.now c.rules.ensures)
    (c.ranked_nets_are_live.ensures c.args.net.now c.args.live.now c.requires.live) f
