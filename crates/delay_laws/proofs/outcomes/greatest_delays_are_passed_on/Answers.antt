use Rattle.delay_laws.proofs.PassedOn.{greatest_delays_are_passed_on}
use Rattle.delay_laws.proofs.outcomes.greatest_delays_are_passed_on.Goals as goal

pub returns : goal.returns
returns c = greatest_delays_are_passed_on
