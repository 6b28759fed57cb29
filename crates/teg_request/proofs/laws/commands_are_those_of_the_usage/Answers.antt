use Rattle.teg_request.proofs.CommandNames.{commands_tied}
use Rattle.teg_request.proofs.laws.commands_are_those_of_the_usage.Goals as goal

pub returns : goal.returns
returns c = commands_tied
