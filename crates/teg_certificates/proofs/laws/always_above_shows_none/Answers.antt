use Rattle.teg_certificates.proofs.FurtherTokens.{always_above, never_shown}
use Rattle.teg_certificates.proofs.laws.always_above_shows_none.Goals as goal

pub returns : goal.returns
returns c = record { none = always_above; never = never_shown }
