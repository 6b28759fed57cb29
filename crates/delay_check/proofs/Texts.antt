-- Lines that are written behind others.
use Rattle.std.proofs.Common.{ℕ, ◌≡◌, [], ◌∷◌, ◌++◌, List, sym, ap, ◌∙◌, append_assoc}
use Rattle.teg_text.specs.Lines.{line_then, written}
use Rattle.teg_text.proofs.Joining.{line_append, written_append}

-- a first line, some lines, and more of them behind
pub lines_behind : (old new : List ℕ) (first : List (List ℕ)) (one two : List (List (List ℕ))) → old ≡ line_then first [] ++ written one
    → new ≡ old ++ written two → new ≡ written (first ∷ (one ++ two))
lines_behind old new first one two head more =
    more
    ∙ ap (λ (l : List ℕ). l ++ written two) head
    ∙ append_assoc (line_then first []) (written one) (written two)
    ∙ ap (λ (l : List ℕ). line_then first [] ++ l) (sym (written_append one two))
    ∙ sym (line_append first (written (one ++ two)))
