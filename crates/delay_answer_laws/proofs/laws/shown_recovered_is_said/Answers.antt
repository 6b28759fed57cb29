use Rattle.delay_answer_laws.proofs.SaidSpreads.{recovered_said}
use Rattle.delay_answer_laws.proofs.laws.shown_recovered_is_said.Goals as goal

pub returns : goal.returns
returns c = recovered_said
