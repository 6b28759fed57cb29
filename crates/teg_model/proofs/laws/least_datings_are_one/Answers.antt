use Rattle.teg_model.proofs.OfNet.{only_least, least_of_system}
use Rattle.teg_model.proofs.laws.least_datings_are_one.Goals as goal

pub returns : goal.returns
returns c = record { one = only_least; of_system = least_of_system }
