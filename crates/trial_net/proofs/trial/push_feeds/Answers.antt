use Rattle.trial_net.proofs.Lines.{one_more}
use Rattle.trial_net.specs.Trials.{feed_place}
use Rattle.trial_net.proofs.trial.push_feeds.Goals as goal

pub loop-before-preserved : goal.loop-before-preserved
loop-before-preserved c = one_more feed_place c.loop-before.before _ _ _ _ c.loop-before.invariant c.in_ok-keep.ensures c.in_ok-place.ensures
