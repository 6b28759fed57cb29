use Rattle.delay_answer_laws.proofs.SaidSpreads.{said_shown}
use Rattle.delay_answer_laws.proofs.laws.said_timetables_are_shown.Goals as goal

pub returns : goal.returns
returns c = said_shown
