use Rattle.std.proofs.Common.{◌≡◌, map}
use Rattle.std.specs.List.{range_with_len}
use Rattle.trial_net.specs.Trials.{machine}
use Rattle.trial_net.proofs.trial.machines.Given as goal

abbrev pub invariant-loop-before : goal.invariant-loop-before
invariant-loop-before l = l.line.items ≡ map machine (range_with_len 1 l.before)
