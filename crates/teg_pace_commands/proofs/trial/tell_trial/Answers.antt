use Rattle.teg_pace_commands.proofs.TrialLaws.{trial_is_live}
use Rattle.teg_pace_commands.proofs.trial.tell_trial.Goals as goal

pub with_ranks-requires : goal.with_ranks-requires
with_ranks-requires c = rw c.in_ok-make_trial.ensures (trial_is_live c.get.result)
