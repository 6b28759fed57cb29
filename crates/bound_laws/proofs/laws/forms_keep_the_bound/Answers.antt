use Rattle.bound_laws.proofs.Shortest.{forms_keep_the_bound}
use Rattle.bound_laws.proofs.laws.forms_keep_the_bound.Goals as goal

pub returns : goal.returns
returns c = forms_keep_the_bound
