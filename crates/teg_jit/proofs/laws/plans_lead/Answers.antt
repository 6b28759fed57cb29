use Rattle.teg_jit.proofs.Walking.{plans_lead}
use Rattle.teg_jit.proofs.laws.plans_lead.Goals as goal

pub returns : goal.returns
returns c = plans_lead
