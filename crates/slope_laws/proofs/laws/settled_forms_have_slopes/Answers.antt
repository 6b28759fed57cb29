use Rattle.slope_laws.proofs.FormSlopes.{settled_forms_have_slopes}
use Rattle.slope_laws.proofs.laws.settled_forms_have_slopes.Goals as goal

pub returns : goal.returns
returns c = settled_forms_have_slopes
