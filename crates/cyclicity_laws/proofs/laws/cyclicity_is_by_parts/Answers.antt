use Rattle.cyclicity_laws.proofs.Reached.{transfers_are_common, transfers_exist}
use Rattle.cyclicity_laws.proofs.TransferPeriods.{cyclicity_by_parts, transfers_divide}
use Rattle.cyclicity_laws.proofs.laws.cyclicity_is_by_parts.Goals as goal

pub returns : goal.returns
returns c = record {
  is = cyclicity_by_parts c.systems_settle.ensures.settles;
  divide = transfers_divide;
  common = transfers_are_common;
  exist = transfers_exist c.systems_settle.ensures.settles;
}
