use Rattle.teg_model.proofs.Within.{least_in_within}
use Rattle.teg_model.proofs.systems.least_in_are_within.Goals as goal

pub returns : goal.returns
returns c = λ s bound hold rank first x rr b h t k o. least_in_within s bound hold rank first x rr b h t k o
