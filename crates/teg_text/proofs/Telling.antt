-- What is told by lines of words is read back from their text: so what has the same text is the same.
use Rattle.std.proofs.Common.{◌≡◌, ℕ, true, List, sym, ap, ◌∙◌}
use Rattle.teg_text.specs.Lines.{are_lines, written}
use Rattle.teg_text.specs.WordReading.{lines_in}
use Rattle.teg_text.proofs.Reading.{written_read}

-- these are lines of words, from which this is read
pub record IsReadFrom {A : Type 0} (read : List (List (List ℕ)) → A) (lines : List (List (List ℕ))) (told : A) : Type 0 where
  pub words : are_lines lines ≡ true
  pub back : read lines ≡ told

pub text_back : {A : Type 0} (read : List (List (List ℕ)) → A) (lines : List (List (List ℕ))) (told : A) → IsReadFrom read lines told → read (lines_in (written lines)) ≡ told
text_back read lines told h = ap read (written_read lines h.words) ∙ h.back

pub same_told : {A : Type 0} (read : List (List (List ℕ)) → A) (lines more : List (List (List ℕ))) (a b : A) →
    IsReadFrom read lines a → IsReadFrom read more b → written lines ≡ written more → a ≡ b
same_told read lines more a b one two e = sym (text_back read lines a one) ∙ (ap (λ (text : List ℕ). read (lines_in text)) e ∙ text_back read more b two)
