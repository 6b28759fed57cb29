use Rattle.io_laws.proofs.Outputs.{dates_are_outputs, outputs_of_transfers}
use Rattle.io_laws.proofs.laws.dates_are_outputs.Goals as goal

pub returns : goal.returns
returns c = record { walks = dates_are_outputs; transfers = outputs_of_transfers }
