use Rattle.pace_laws.proofs.Existing.{exist, just_at}
use Rattle.pace_laws.proofs.laws.tight_potentials_exist.Goals as goal

pub returns : goal.returns
returns c = record { exist = exist; just = just_at }
