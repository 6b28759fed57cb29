use Rattle.delay_laws.proofs.Keeping.{delays_die_out}
use Rattle.delay_laws.proofs.outcomes.delays_die_out.Goals as goal

pub returns : goal.returns
returns c = delays_die_out
