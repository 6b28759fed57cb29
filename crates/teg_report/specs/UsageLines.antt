-- The usage: which commands there are, and how each is used.
use Rattle.std.specs.Prelude.{ℕ, List, [], ◌∷◌, ◌++◌, map, codes}
use Rattle.teg_text.specs.Lines.{phrase}

-- the commands, in the order of the usage: the name of each, and what follows it
abbrev pub commands : List (List ℕ × List ℕ)
commands =
    (codes "check", codes "NET") ∷
    (codes "list", codes "NET K") ∷
    (codes "form", codes "NET") ∷
    (codes "cycle", codes "NET [--rounds]") ∷
    (codes "dates", codes "NET [--limit N|none]") ∷
    (codes "date", codes "NET TRANSITION K [--limit N|none]") ∷
    (codes "jit", codes "NET DUE") ∷
    (codes "calc", codes "EXPR") ∷
    (codes "replay", codes "NET LOG") ∷
    (codes "slack", codes "NET") ∷
    (codes "transfer", codes "NET [--limit N]") ∷
    (codes "trial", codes "N") ∷
    (codes "migrate", codes "NET") ∷
    (codes "forever", codes "NET DUE") ∷
    (codes "size", codes "NET PLACE A/B") ∷
    (codes "timetable", codes "NET A FILE [--limit N|none]") ∷
    (codes "bound", codes "NET") ∷
    []

-- a command as it is used: its name and what follows it
abbrev pub command_form : List ℕ × List ℕ → List ℕ
command_form command = command.0 ++ 32 ∷ command.1

-- how these commands are used, one line each, of which the first begins with this word
abbrev pub usage_from : List ℕ → List (List ℕ) → List (List (List ℕ))
usage_from begin [] = []
usage_from begin (form ∷ forms) = phrase (begin ++ (codes " teg " ++ form)) ∷ usage_from (codes "      ") forms

-- what is told where words are refused
abbrev pub usage_lines : List (List (List ℕ))
usage_lines = usage_from (codes "usage:") (map command_form commands)
