-- What values of the code mean.
use Rattle.std.specs.Option.{option_copied}
pub use Rattle.clap.specs.Walk.{texts}
use Rattle.teg_words.specs.declared.simple_command.GivenWords.{GivenWords}
use Rattle.teg_words.specs.CommandLineWords.{Given}

-- what the words give
abbrev pub given_by : GivenWords → Given
given_by words = record { command = words.command.now; rest = texts words.rest.items; limit = option_copied words.limit; rounds = words.rounds }
