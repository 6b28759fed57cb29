use Rattle.game_laws.proofs.Outcomes.{legal_or_fail}
use Rattle.game_laws.proofs.laws.firings_are_legal_or_fail.Goals as goal

pub returns : goal.returns
returns c = legal_or_fail
