-- Working definitions of how lists of dates are read.
use Rattle.std.specs.Prelude.{ℕ, ℤ, pos, ◌+◌, ◌*◌, ◌<◌, ◌≤◌, ◌≡◌, ◌↔◌, ◌++◌, Bool, true, false, List, Option, Some, None, length, slice_index_or, []}
use Rattle.std.specs.Fmt.{decimal}
use Rattle.teg_model.specs.dioid.declared.dates.Date.{Date}
use Rattle.teg_model.specs.dioid.declared.dates.Date.TheVariants.{Early, At}
use Rattle.teg_model.specs.teg_net.Nets.{NetLists}
use Rattle.teg_model.specs.DateBounds.{IsDateWithin, greatest_least_date}
use Rattle.teg_model.specs.Datings.{IsLeastDating}
use Rattle.teg_text.specs.Lines.{phrase}
use Rattle.teg_text.specs.ValueWords.{date_word}
use Rattle.dating_certificates.specs.CheckedRows.{date_in_rows}
use Rattle.answer_check.specs.ShownLists.{IsListText}

-- of the dates that a least dating may have, the word is that of this one and of no other; of none where this is none of them
abbrev pub IsReadDate : List ℕ → Date → Type 0
IsReadDate word date = (d : Date) → IsDateWithin greatest_least_date d → (date ≡ d) ↔ (word ≡ date_word d)

-- the date is a number; of those that a least date may be, the word is that of this one and of no other
pub record IsReadNumber (word : List ℕ) (date : Date) : Type 0 where
  pub number : (z : ℤ) × (date ≡ At z)
  pub read : (n : ℕ) → n ≤ greatest_least_date → (date ≡ At (pos n)) ↔ (word ≡ decimal n)

-- the words are a row of this number, with so many words behind it
pub record IsRow (width number : ℕ) (words : List (List ℕ)) : Type 0 where
  pub long : length words ≡ width + 1
  pub first : slice_index_or words 0 [] ≡ decimal number

-- these dates are read from the words of a row behind its number
pub record AreRowDates (width : ℕ) (words : List (List ℕ)) (dates : List Date) : Type 0 where
  pub long : length dates ≡ width
  pub read : (t : ℕ) → t < width → IsReadDate (slice_index_or words (t + 1) []) (slice_index_or dates t Early)

-- the words were a row, and its dates were put behind others; or they were none
abbrev pub ReadsRow : ℕ → ℕ → List (List ℕ) → (before after : List Date) → Bool → Type 0
ReadsRow width number words before after true = IsRow width number words × ((dates : List Date) × (after ≡ before ++ dates) × AreRowDates width words dates)
ReadsRow width number words before after false = IsRow width number words → ⊥

-- the words of the row of this number, of a list of these lines
abbrev pub row_words : List (List ℕ) → ℕ → List (List ℕ)
row_words lines k = phrase (slice_index_or lines (k + 1) [])

-- the word for the firing of number k of transition t
abbrev pub told_word : List (List ℕ) → ℕ → ℕ → List ℕ
told_word lines t k = slice_index_or (row_words lines k) (t + 1) []

-- the rows of these lines up to a number, and the dates that are read from them
pub record AreReadRows (width count : ℕ) (lines : List (List ℕ)) (dates : List Date) : Type 0 where
  pub whole : length dates ≡ count * width
  pub rows : (k : ℕ) → 1 ≤ k → k ≤ count → IsRow width k (row_words lines k)
  pub read : (t k : ℕ) → t < width → 1 ≤ k → k ≤ count → IsReadDate (told_word lines t k) (date_in_rows width dates t k)

-- the dates of all rows; none just where some line is no row
abbrev pub ReadsRows : ℕ → ℕ → List (List ℕ) → Option (List Date) → Type 0
ReadsRows width count lines (Some dates) = AreReadRows width count lines dates
ReadsRows width count lines None = ((k : ℕ) → 1 ≤ k → k ≤ count → IsRow width k (row_words lines k)) → ⊥

-- the text is a list, and its words are read as these dates
pub record IsReadList (net : NetLists) (text : List ℕ) (count : ℕ) (dates : List Date) : Type 0 where
  pub words : ℕ → ℕ → List ℕ
  pub list : IsListText net text count words
  pub whole : length dates ≡ count * length net.transitions
  pub read : (t k : ℕ) → t < length net.transitions → 1 ≤ k → k ≤ count → IsReadDate (words t k) (date_in_rows (length net.transitions) dates t k)

-- the number and the dates of a list; none just where the text is no list
abbrev pub ReadsList : NetLists → List ℕ → Option (ℕ × List Date) → Type 0
ReadsList net text (Some told) = IsReadList net text told.0 told.1
ReadsList net text None = (count : ℕ) (words : ℕ → ℕ → List ℕ) → IsListText net text count words → ⊥

-- of these dates up to a number, those of this row are the first that are not all those of the least dating
pub record IsOtherRow (net : NetLists) (told : ℕ → ℕ → Date) (count row : ℕ) : Type 0 where
  pub some : 1 ≤ row
  pub within : row ≤ count
  pub before : (x : ℕ → ℕ → Date) → IsLeastDating net x → (t k : ℕ) → t < length net.transitions → 1 ≤ k → k < row → told t k ≡ x t k
  pub other : (x : ℕ → ℕ → Date) → IsLeastDating net x → ((t : ℕ) → t < length net.transitions → told t row ≡ x t row) → ⊥
