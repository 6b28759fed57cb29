-- The line of a faulty row as its parts.
use Rattle.std.proofs.Common.{◌≡◌, ℕ, List, [], ◌∷◌, ◌++◌, decimal, ap, ◌∙◌, codes}
use Rattle.teg_text.specs.Faults.{row_line}
use Rattle.teg_text.specs.Lines.{phrase, line_then}
use Rattle.teg_text.proofs.Joining.{further_phrase, phrase_behind}

pub row_written : (file fault : List ℕ) (row : ℕ) →
    line_then (row_line file row (phrase fault)) [] ≡ codes "refused: " ++ (file ++ (codes " row " ++ (decimal row ++ (32 ∷ (fault ++ 10 ∷ [])))))
row_written file fault row =
    ap (λ (t : List ℕ). codes "refused:" ++ t)
    (further_phrase file (codes "row" ∷ decimal row ∷ phrase fault) []
    ∙ ap (λ (t : List ℕ). 32 ∷ (file ++ (codes " row " ++ (decimal row ++ t)))) (phrase_behind fault))
