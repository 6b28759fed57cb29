use Rattle.policy_laws.proofs.Counting.{one_ratio_few, few_rounds}
use Rattle.policy_laws.proofs.laws.rounds_are_few.Goals as goal

pub returns : goal.returns
returns c = record { of_one_ratio = one_ratio_few; all = few_rounds }
