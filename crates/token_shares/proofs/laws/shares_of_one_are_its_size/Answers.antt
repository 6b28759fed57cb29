use Rattle.token_shares.proofs.OneShare.{enough_both, one_answer}
use Rattle.token_shares.proofs.laws.shares_of_one_are_its_size.Goals as goal

pub returns-clause-enough : goal.returns-clause-enough
returns-clause-enough c = enough_both

pub returns-clause-told : goal.returns-clause-told
returns-clause-told c = one_answer
