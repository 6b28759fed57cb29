-- What a text of lines is read to be.
use Rattle.std.specs.Prelude.{ℕ, ◌≡◌, ◌<◌, ◌^◌, ◌↔◌, true, List, Option, Some, None, map}
use Rattle.std.specs.Fmt.{decimal}
use Rattle.teg_text.specs.Lines.{are_lines, phrase, written}

-- the text is that of these lines of words
pub record IsTextOf (text : List ℕ) (lines : List (List (List ℕ))) : Type 0 where
  pub are : are_lines lines ≡ true
  pub told : text ≡ written lines

-- the lines of the text that are read, without their line feeds; none just where it is the text of no lines of words
abbrev pub ReadsLines : List ℕ → Option (List (List ℕ)) → Type 0
ReadsLines text (Some lines) = IsTextOf text (map phrase lines)
ReadsLines text None = (lines : List (List (List ℕ))) → IsTextOf text lines → ⊥

-- the number of 128 bits that is read, just where it is written so
abbrev pub ReadsNumber : List ℕ → Option ℕ → Type 0
ReadsNumber word number = (n : ℕ) → n < 2 ^ 128 → (number ≡ Some n) ↔ (word ≡ decimal n)
