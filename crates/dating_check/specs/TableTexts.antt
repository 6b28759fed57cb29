-- Texts that are tables of latest dates, right or not, and what is false in one.
use Rattle.std.specs.Prelude.{ℕ, ◌+◌, ◌-◌, ◌*◌, ◌<◌, ◌≤◌, ◌≡◌, ◌^◌, true, ◌∷◌, [], List, Option, Some, None, codes, flat_map, length, map, slice_index_or}
use Rattle.std.specs.Fmt.{decimal}
use Rattle.std.specs.List.{list_all, range_with_len}
use Rattle.teg_model.specs.dioid.declared.dates.Date.{Date}
use Rattle.teg_model.specs.dioid.declared.dates.Date.TheVariants.{Early, At, Never}
use Rattle.teg_model.specs.teg_net.Circuits.{IsLive}
use Rattle.teg_model.specs.teg_net.Nets.{NetLists}
use Rattle.teg_due.specs.declared.rows.DueRow.{DueRow}
use Rattle.teg_due.specs.RowRules.{IsDueOf}
use Rattle.due_laws.specs.LatestDates.{IsLatestDate}
use Rattle.due_laws.specs.MeetingDueDates.{InputsMeet, inputs_at_zero}
use Rattle.teg_text.specs.Lines.{is_word, written}
use Rattle.teg_text.specs.ValueWords.{date_word}
use Rattle.teg_text.specs.WordsOfNames.{name_of_transition, no_transition}
use Rattle.latest_certificates.specs.LatestRows.{ListsDues}
use Rattle.dating_check.specs.DueNumbers.{IsGreatestNumber}
use Rattle.dating_check.specs.ShownTables.{role_told}
use Rattle.dating_check.specs.declared.table_faults.TableFault.{TableFault}
use Rattle.dating_check.specs.declared.table_faults.TableFault.TheVariants.{OtherNumbers, Line, Late}

-- the line of firing k of the transition of number t, with some words behind its number
abbrev pub line_of_words : NetLists → (ℕ → ℕ → List (List ℕ)) → ℕ → ℕ → List (List ℕ)
line_of_words net words t k = role_told (slice_index_or net.transitions t no_transition).role ∷ name_of_transition net (record { index = t }) ∷ decimal k ∷ words t k

-- up to which number there are lines
abbrev pub table_head : ℕ → List (List ℕ)
table_head numbers = codes "latest" ∷ codes "inputs" ∷ codes "for" ∷ decimal numbers ∷ codes "firings" ∷ []

-- such lines up to a number, transition after transition
abbrev pub table_of_words : NetLists → ℕ → (ℕ → ℕ → List (List ℕ)) → List (List (List ℕ))
table_of_words net numbers words = table_head numbers ∷ flat_map (λ t. map (line_of_words net words t) (range_with_len 1 numbers)) (range_with_len 0 (length net.transitions))

-- the whole text is a table up to this number, with some words behind the number of each line
pub record IsTableText (net : NetLists) (text : List ℕ) (numbers : ℕ) (words : ℕ → ℕ → List (List ℕ)) : Type 0 where
  pub few : numbers < 2 ^ 32
  pub are : (t k : ℕ) → t < length net.transitions → 1 ≤ k → k ≤ numbers → list_all is_word (words t k) ≡ true
  pub told : text ≡ written (table_of_words net numbers words)

-- how a latest date is told
abbrev pub latest_word : Date → List ℕ
latest_word Early = date_word Early
latest_word (At date) = date_word (At date)
latest_word Never = codes "free"

-- the line tells the latest date of its firing
abbrev pub IsRightLine : NetLists → (ℕ → ℕ → Option ℕ) → (ℕ → ℕ → List (List ℕ)) → ℕ → ℕ → Type 0
IsRightLine net due words t k = (date : Date) → IsLatestDate net due t k date → slice_index_or (words t k) 0 [] ≡ latest_word date

-- so does each line up to a number
abbrev pub AreRightLines : NetLists → (ℕ → ℕ → Option ℕ) → (ℕ → ℕ → List (List ℕ)) → ℕ → Type 0
AreRightLines net due words numbers = (t k : ℕ) → t < length net.transitions → 1 ≤ k → k ≤ numbers → IsRightLine net due words t k

-- of the lines up to a number, this is the first in the text that is not right
pub record IsFirstWrongLine (net : NetLists) (due : ℕ → ℕ → Option ℕ) (words : ℕ → ℕ → List (List ℕ)) (numbers t k : ℕ) : Type 0 where
  pub transition : t < length net.transitions
  pub some : 1 ≤ k
  pub within : k ≤ numbers
  pub above : (s j : ℕ) → s < t → 1 ≤ j → j ≤ numbers → IsRightLine net due words s j
  pub before : (j : ℕ) → 1 ≤ j → j < k → IsRightLine net due words t j
  pub wrong : IsRightLine net due words t k → ⊥

-- what is false in a table up to this number: it is not the greatest that is due; a line is the first that is not right; or each
-- line is right, and inputs at 0 do not meet what is due
abbrev pub IsFaultOf : NetLists → List DueRow → ℕ → (ℕ → ℕ → List (List ℕ)) → TableFault → Type 0
IsFaultOf net rows numbers words OtherNumbers = IsGreatestNumber rows numbers → ⊥
IsFaultOf net rows numbers words (Line transition number line) = (line ≡ 1 + (transition.index * numbers + (number - 1))) × IsGreatestNumber rows numbers
    × ((due : ℕ → ℕ → Option ℕ) → ListsDues rows due → IsFirstWrongLine net due words numbers transition.index number)
IsFaultOf net rows numbers words Late = IsGreatestNumber rows numbers
    × ((due : ℕ → ℕ → Option ℕ) → ListsDues rows due → AreRightLines net due words numbers × (InputsMeet net due inputs_at_zero → ⊥))

-- the net is live, and the text is a table in which this is false
pub record IsFalseTable (net : NetLists) (rows : List DueRow) (text : List ℕ) (fault : TableFault) : Type 0 where
  pub due : IsDueOf net rows
  pub live : IsLive net
  pub table : (numbers : ℕ) × (words : ℕ → ℕ → List (List ℕ)) × IsTableText net text numbers words × IsFaultOf net rows numbers words fault

-- the table goes up to the greatest number that is due, each line is right, and inputs at 0 meet what is due
pub record IsRightTable (net : NetLists) (rows : List DueRow) (numbers : ℕ) (words : ℕ → ℕ → List (List ℕ)) : Type 0 where
  pub greatest : IsGreatestNumber rows numbers
  pub lines : (due : ℕ → ℕ → Option ℕ) → ListsDues rows due → AreRightLines net due words numbers
  pub in_time : (due : ℕ → ℕ → Option ℕ) → ListsDues rows due → InputsMeet net due inputs_at_zero

-- if the rows are a due list, the net is live and the text is a table, it is right
abbrev pub IsRightIfTable : NetLists → List DueRow → List ℕ → Type 0
IsRightIfTable net rows text = IsDueOf net rows → IsLive net → (numbers : ℕ) (words : ℕ → ℕ → List (List ℕ)) → IsTableText net text numbers words → IsRightTable net rows numbers words

-- what refutes the text; nothing just where the rows are no due list, the net is not live, or the text is no table or a right one
abbrev pub TellsFault : NetLists → List DueRow → List ℕ → Option TableFault → Type 0
TellsFault net rows text (Some fault) = IsFalseTable net rows text fault
TellsFault net rows text None = IsRightIfTable net rows text
