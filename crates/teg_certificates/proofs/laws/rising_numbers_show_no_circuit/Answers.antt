use Rattle.teg_certificates.proofs.SlackShown.{no_circuit_shown}
use Rattle.teg_certificates.proofs.laws.rising_numbers_show_no_circuit.Goals as goal

pub returns : goal.returns
returns c = no_circuit_shown
