-- What the words of the command line give, by the stated meaning of `clap`.
use Rattle.std.specs.Prelude.{ℕ, Bool, true, false, List, [], ◌∷◌, Option, Some, None, codes, if◌then◌else◌, unwrap_or, option_map}
use Rattle.std.specs.Str.{bytes_eq}
use Rattle.std.specs.Option.{option_map_or}
use Rattle.clap.specs.Lexer.{usize_max}
use Rattle.clap.specs.Walk.{is_empty}
use Rattle.clap.specs.Words.{App, Row, Rule, all_of, fault_of, first_of, matches_of, new_app, new_rule}
use Rattle.clap.specs.declared.builder.action.ArgAction.TheVariants.{SetTrue}

-- the first positional, which must be there
abbrev pub command_rule : Rule
command_rule = record (new_rule (codes "command")) { required = true }

-- the other positionals, of any number
abbrev pub rest_rule : Rule
rest_rule = record (new_rule (codes "rest")) { range = Some (record { start_inclusive = 0; end_inclusive = usize_max }) }

-- the option `--limit` with a value
abbrev pub limit_rule : Rule
limit_rule = record (new_rule (codes "limit")) { long = Some (codes "limit") }

-- the flag `--rounds`
abbrev pub rounds_rule : Rule
rounds_rule = record (new_rule (codes "rounds")) { long = Some (codes "rounds"); action = Some SetTrue }

-- a command without arguments, without a name of the program among the words, without help and without version
abbrev pub bare_command : App
bare_command = record (new_app (codes "teg")) {
  top = record (new_app (codes "teg")).top {
    no_binary_name = true;
    disable_help_flag = true;
    disable_version_flag = true;
  };
}

-- the simple command: with these arguments
abbrev pub simple_command : App
simple_command = record bare_command { top = record bare_command.top { rules = command_rule ∷ rest_rule ∷ limit_rule ∷ rounds_rule ∷ [] } }

-- the command, the other positionals in order, the value of `--limit`, and whether `--rounds` is there
pub record Given : Type 0 where
  pub command : List ℕ
  pub rest : List (List ℕ)
  pub limit : Option (List ℕ)
  pub rounds : Bool

-- the values of the positionals after the first
abbrev pub rest_of : List Row → List (List ℕ)
rest_of rows = unwrap_or (all_of (codes "rest") rows) []

-- the flag is there
abbrev pub flag_of : List Row → Bool
flag_of rows = option_map_or (λ text. bytes_eq text (codes "true")) (first_of (codes "rounds") rows) false

-- what these rows of `clap` give
abbrev pub given_from : List Row → Option Given
given_from rows =
    option_map (λ command. record { command = command; rest = rest_of rows; limit = first_of (codes "limit") rows; rounds = flag_of rows })
    (first_of (codes "command") rows)

-- what the words give: nothing where `clap` finds a fault in them
abbrev pub given_of : List (List ℕ) → Option Given
given_of words = if is_empty (fault_of simple_command words) then given_from (matches_of simple_command words) else None
