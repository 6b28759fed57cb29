use Rattle.teg_certificates.proofs.Inside.{circuit_in_part}
use Rattle.teg_certificates.proofs.laws.circuits_lie_in_one_part.Goals as goal

pub returns : goal.returns
returns c = λ net part_of ends count rises ps h. circuit_in_part net ends part_of count rises ps h
