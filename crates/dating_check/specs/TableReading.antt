-- Working definitions of how tables of latest dates are read, and their lines compared.
use Rattle.std.specs.Prelude.{ℕ, ◌+◌, ◌-◌, ◌*◌, ◌<◌, ◌≤◌, ◌≡◌, List, [], Option, Some, None, drop, length, slice_index_or}
use Rattle.std.specs.Fmt.{decimal}
use Rattle.dioid.specs.declared.dates.Date.{Date}
use Rattle.teg_net.specs.Nets.{NetLists}
use Rattle.teg_net.specs.declared.entries.TransitionId.{TransitionId}
use Rattle.teg_text.specs.Lines.{phrase}
use Rattle.teg_text.specs.WordsOfNames.{name_of_transition, no_transition}
use Rattle.dating_certificates.specs.CheckedRows.{date_in_rows}
use Rattle.dating_check.specs.ShownTables.{role_told}
use Rattle.dating_check.specs.TableTexts.{IsTableText, latest_word}

-- the words of the line of firing k of the transition of number t, of a table of these lines up to a number
abbrev pub line_words : List (List ℕ) → ℕ → ℕ → ℕ → List (List ℕ)
line_words lines numbers t k = phrase (slice_index_or lines (1 + (t * numbers + (k - 1))) [])

-- those behind its number
abbrev pub words_behind : List (List ℕ) → ℕ → ℕ → ℕ → List (List ℕ)
words_behind lines numbers t k = drop 3 (line_words lines numbers t k)

-- the words are those of a line of the number of a transition of this name, with some behind them
pub record IsFiringLine (role name : List ℕ) (number : ℕ) (words : List (List ℕ)) : Type 0 where
  pub long : 3 ≤ length words
  pub role_is : slice_index_or words 0 [] ≡ role
  pub name_is : slice_index_or words 1 [] ≡ name
  pub number_is : slice_index_or words 2 [] ≡ decimal number

-- so are the lines of the transition of number t
abbrev pub AreFiringLines : NetLists → List (List ℕ) → ℕ → ℕ → Type 0
AreFiringLines net lines numbers t = (k : ℕ) → 1 ≤ k → k ≤ numbers
    → IsFiringLine (role_told (slice_index_or net.transitions t no_transition).role) (name_of_transition net (record { index = t })) k (line_words lines numbers t k)

-- so are those of all transitions
abbrev pub AreTableLines : NetLists → List (List ℕ) → ℕ → Type 0
AreTableLines net lines numbers = (t : ℕ) → t < length net.transitions → AreFiringLines net lines numbers t

-- the number and the lines of a table; none just where the text is no table
abbrev pub ReadsTable : NetLists → List ℕ → Option (ℕ × List (List ℕ)) → Type 0
ReadsTable net text (Some read) = IsTableText net text read.0 (words_behind read.1 read.0)
ReadsTable net text None = (numbers : ℕ) (words : ℕ → ℕ → List (List ℕ)) → IsTableText net text numbers words → ⊥

-- the line tells this date of its firing
abbrev pub TellsDate : List (List ℕ) → ℕ → ℕ → List Date → ℕ → ℕ → Type 0
TellsDate lines numbers width dates t k = slice_index_or (line_words lines numbers t k) 3 [] ≡ latest_word (date_in_rows width dates t k)

-- of the lines of the transition of number t, the first that does not tell this date; none where each does
abbrev pub FirstOtherOf : List (List ℕ) → ℕ → ℕ → List Date → ℕ → Option ℕ → Type 0
FirstOtherOf lines numbers width dates t (Some k) = (1 ≤ k) × (k ≤ numbers) × ((j : ℕ) → 1 ≤ j → j < k → TellsDate lines numbers width dates t j) × (TellsDate lines numbers width dates t k → ⊥)
FirstOtherOf lines numbers width dates t None = (k : ℕ) → 1 ≤ k → k ≤ numbers → TellsDate lines numbers width dates t k

-- of all lines
abbrev pub FirstOther : List (List ℕ) → ℕ → ℕ → List Date → Option (TransitionId × ℕ) → Type 0
FirstOther lines numbers width dates (Some first) =
    (first.0.index < width) × ((s : ℕ) → s < first.0.index → FirstOtherOf lines numbers width dates s None) × FirstOtherOf lines numbers width dates first.0.index (Some first.1)
FirstOther lines numbers width dates None = (t : ℕ) → t < width → FirstOtherOf lines numbers width dates t None
