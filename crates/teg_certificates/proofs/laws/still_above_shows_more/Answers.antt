use Rattle.teg_certificates.proofs.FurtherTokens.{still_above, fewest_shown}
use Rattle.teg_certificates.proofs.laws.still_above_shows_more.Goals as goal

pub returns : goal.returns
returns c = record { more = still_above; fewest = fewest_shown }
