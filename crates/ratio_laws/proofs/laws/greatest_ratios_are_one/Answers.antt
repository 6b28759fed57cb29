use Rattle.ratio_laws.proofs.OneRatio.{one}
use Rattle.ratio_laws.proofs.laws.greatest_ratios_are_one.Goals as goal

pub returns : goal.returns
returns c = one
