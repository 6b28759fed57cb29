-- The limits of the commands themselves.
use Rattle.std.specs.Prelude.{ℕ}

-- bytes of an expression
abbrev pub most_expression : ℕ
most_expression = 4096

-- machines of a line, at most
abbrev pub most_machines : ℕ
most_machines = 400
