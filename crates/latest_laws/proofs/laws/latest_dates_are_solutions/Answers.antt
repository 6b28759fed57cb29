use Rattle.latest_laws.proofs.BackwardSolutions.{solutions_are_latest}
use Rattle.latest_laws.proofs.LatestExist.{latest_exist, latest_are_one}
use Rattle.latest_laws.proofs.laws.latest_dates_are_solutions.Goals as goal

pub returns : goal.returns
returns c = record { exist = latest_exist; one = latest_are_one; solutions = solutions_are_latest }
