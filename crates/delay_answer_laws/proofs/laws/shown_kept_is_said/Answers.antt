use Rattle.delay_answer_laws.proofs.SaidSpreads.{kept_said}
use Rattle.delay_answer_laws.proofs.laws.shown_kept_is_said.Goals as goal

pub returns : goal.returns
returns c = kept_said
