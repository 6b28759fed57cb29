use Rattle.std.proofs.Common.{subst}
use Rattle.teg_net.specs.GreatestRatios.{HasNoCircuit, IsAnyPlace}
use Rattle.teg_net.specs.Nets.{NetLists}
use Rattle.teg_pace_commands.proofs.TrialLaws.{trial_has_circuit}
use Rattle.teg_pace_commands.proofs.trial.tell_answer.Goals as goal

pub unreachable-requires : goal.unreachable-requires
unreachable-requires c = trial_has_circuit c.args.machines.now c.requires.some (subst (λ (n : NetLists). HasNoCircuit n IsAnyPlace) c.requires.net c.in_default.ensures.none)

pub tell_line-requires-clause-slacks : goal.tell_line-requires-clause-slacks
tell_line-requires-clause-slacks c = c.in_ok-slacks.ensures.slacks _ c.in-Some.ensures.some.greatest
