use Rattle.teg_calc.proofs.OneAnswer.{one_answer}
use Rattle.teg_calc.proofs.laws.trees_have_one_answer.Goals as goal

pub returns : goal.returns
returns c = one_answer
