use Rattle.cyclicity_laws.proofs.TransferPeriods.{transfers_repeat, periods_of_transfers, rates_exist}
use Rattle.cyclicity_laws.proofs.laws.transfers_repeat_by_parts.Goals as goal

pub returns : goal.returns
returns c = record { repeat = transfers_repeat c.systems_settle.ensures.settles; periods = periods_of_transfers; rates = rates_exist c.systems_settle.ensures.settles }
