use Rattle.teg_commands.proofs.ToldAnswers.{answers_told}
use Rattle.teg_commands.proofs.laws.answers_of_commands_are_told.Goals as goal

pub returns : goal.returns
returns c = answers_told
