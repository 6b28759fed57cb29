-- The line of a faulty row of a file.
use Rattle.std.specs.Prelude.{ℕ, List, ◌∷◌, ◌++◌, codes}
use Rattle.std.specs.Fmt.{decimal}
use Rattle.teg_text.specs.Lines.{phrase}

-- what is wrong at a row of a file
abbrev pub row_line : List ℕ → ℕ → List (List ℕ) → List (List ℕ)
row_line file row words = codes "refused:" ∷ (phrase file ++ codes "row" ∷ decimal row ∷ words)
