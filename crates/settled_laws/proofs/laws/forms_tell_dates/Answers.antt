use Rattle.settled_laws.proofs.Telling.{form_tells}
use Rattle.settled_laws.proofs.laws.forms_tell_dates.Goals as goal

pub returns : goal.returns
returns c = form_tells
