use Rattle.series_form.proofs.Same.{equals_is}
use Rattle.series_form.proofs.forms.Series.equals.Goals as goal

pub returns-clause-functions : goal.returns-clause-functions
returns-clause-functions c = equals_is c.args.self.now c.args.other.now c.has_form_of.result c.has_form_of.ensures.left c.has_form_of.ensures.right c.has_form_of.ensures.same
