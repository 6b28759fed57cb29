use Rattle.delay_laws.proofs.Steps.{steps_are_the_plan}
use Rattle.delay_laws.proofs.settling.steps_are_the_plan.Goals as goal

pub returns : goal.returns
returns c = steps_are_the_plan
