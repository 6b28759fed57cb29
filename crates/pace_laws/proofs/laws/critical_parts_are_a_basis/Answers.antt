use Rattle.pace_laws.proofs.Bases.{none_left_out, one_of_each}
use Rattle.pace_laws.proofs.laws.critical_parts_are_a_basis.Goals as goal

pub returns : goal.returns
returns c = record { left_out = none_left_out; each = one_of_each }
