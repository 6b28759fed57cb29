use Rattle.slope_laws.proofs.FormSlopes.{forms_have_slopes}
use Rattle.slope_laws.proofs.laws.forms_have_slopes.Goals as goal

pub returns : goal.returns
returns c = forms_have_slopes
