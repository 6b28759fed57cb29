use Rattle.pace_laws.proofs.Eigenspace.{moved, greater_are, begun_are, begun_exist, spanned}
use Rattle.pace_laws.proofs.laws.potentials_are_spanned.Goals as goal

pub returns : goal.returns
returns c = record { moved = moved; greater = greater_are; begun = begun_are; exist = begun_exist; spanned = spanned }
