use Rattle.pace_laws.proofs.Ratios.{nets_have_ratios, parts_have_ratios, have_a_pace}
use Rattle.pace_laws.proofs.laws.greatest_ratios_exist.Goals as goal

pub returns : goal.returns
returns c = record { nets = nets_have_ratios; parts = parts_have_ratios; potentials = have_a_pace }
