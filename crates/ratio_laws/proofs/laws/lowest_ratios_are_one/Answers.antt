use Rattle.ratio_laws.proofs.OneRatio.{one_lowest}
use Rattle.ratio_laws.proofs.laws.lowest_ratios_are_one.Goals as goal

pub returns : goal.returns
returns c = one_lowest
