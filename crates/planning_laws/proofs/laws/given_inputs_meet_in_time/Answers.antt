use Rattle.planning_laws.proofs.GivenInputs.{meet_in_time, latest_go_on}
use Rattle.planning_laws.proofs.laws.given_inputs_meet_in_time.Goals as goal

pub returns : goal.returns
returns c = record { meet = meet_in_time; latest = latest_go_on }
