-- A text that a reader takes byte by byte.
use Rattle.std.specs.Prelude.{ℕ, List, [], ◌∷◌, Option, Some, option_and_then}
use Rattle.teg_calc.specs.Readers.{State, step}

-- a text
abbrev pub run : State → List ℕ → Option State
run s [] = Some s
run s (byte ∷ text) = option_and_then (λ next. run next text) (step s byte)
