use Rattle.walk_times.proofs.OneTransfer.{transfers_are_one, transfer_limits_are_told}
use Rattle.walk_times.proofs.laws.transfers_are_one.Goals as goal

pub returns : goal.returns
returns c = record { one = transfers_are_one; limits = transfer_limits_are_told }
