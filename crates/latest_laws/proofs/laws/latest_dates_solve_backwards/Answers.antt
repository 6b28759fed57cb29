use Rattle.latest_laws.proofs.BackwardEquations.{least_ahead, last_in_time, greatest_in_time}
use Rattle.latest_laws.proofs.laws.latest_dates_solve_backwards.Goals as goal

pub returns : goal.returns
returns c = record { equations = least_ahead; last = last_in_time; greatest = greatest_in_time }
