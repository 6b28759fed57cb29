use Rattle.teg_outcome.specs.CommandOutcomes.{outcome_of}
use Rattle.teg_run.proofs.net_commands.write_answer.Goals as goal

pub returns-in-Asks : goal.returns-in-Asks
returns-in-Asks g c = rw c.in-Asks.is (outcome_of c.of_net.result, c.of_net.ensures, rw c.closed.ensures at c.finish.ensures)
