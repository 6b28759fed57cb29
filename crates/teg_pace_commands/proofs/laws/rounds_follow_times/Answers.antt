use Rattle.teg_pace_commands.proofs.RoundsAfter.{rounds_said}
use Rattle.teg_pace_commands.proofs.laws.rounds_follow_times.Goals as goal

pub returns : goal.returns
returns c = rounds_said c.parts_are_one.ensures c.policy_runs_are_one.ensures
