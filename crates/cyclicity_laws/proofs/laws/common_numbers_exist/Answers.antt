use Rattle.cyclicity_laws.proofs.CommonNumbers.{common_by_parts_exist, common_of_nets_exist, common_towards_exist}
use Rattle.cyclicity_laws.proofs.laws.common_numbers_exist.Goals as goal

pub returns : goal.returns
returns c = record { parts = common_by_parts_exist; towards = common_towards_exist; nets = common_of_nets_exist c.least_datings_repeat.ensures }
