use Rattle.counter_laws.proofs.Greatest.{counters_greatest}
use Rattle.counter_laws.proofs.Solving.{least_of_tokens}
use Rattle.counter_laws.proofs.laws.counters_solve_min_plus_equations.Goals as goal

pub returns : goal.returns
returns c = record { equations = least_of_tokens; greatest = counters_greatest }
