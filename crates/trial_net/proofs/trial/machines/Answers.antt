use Rattle.std.proofs.Common.{[]}
use Rattle.trial_net.proofs.Lines.{one_more}
use Rattle.trial_net.specs.Trials.{machine}
use Rattle.trial_net.proofs.trial.machines.Goals as goal

pub loop-before-preserved : goal.loop-before-preserved
loop-before-preserved c = one_more machine c.loop-before.before [] _ _ _ c.loop-before.invariant c.in_ok-keep.ensures c.in_ok-machine.ensures
