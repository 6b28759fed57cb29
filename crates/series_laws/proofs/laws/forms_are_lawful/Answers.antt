use Rattle.series_laws.proofs.FormLaws.{form_laws}
use Rattle.series_laws.proofs.laws.forms_are_lawful.Goals as goal

pub returns : goal.returns
returns c = form_laws
