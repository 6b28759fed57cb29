-- The short answers: their lines, and how they are read back.
use Rattle.std.specs.Prelude.{ℕ, List, [], ◌∷◌, ◌++◌, codes, bytes_eq, if◌then◌else◌}
use Rattle.std.specs.Fmt.{decimal}
use Rattle.dioid.specs.declared.dates.Date.{Date as DateOf}
use Rattle.teg_net.specs.Nets.{NetLists}
use Rattle.teg_report.specs.declared.answer.Which.{Which}
use Rattle.teg_report.specs.declared.answer.Which.TheVariants.{Net as NetFile, Due as DueFile, Log as LogFile, Timetable as TimetableFile}
use Rattle.teg_text.specs.Lines.{phrase}
use Rattle.teg_text.specs.WordsOfNames.{transition_in}
use Rattle.teg_text.specs.ValueWords.{date_word, label_word}
use Rattle.teg_report.specs.AnswerValues.{Answer, Live, Date}
use Rattle.teg_text.specs.WordReading.{line_at, word, number_in, date_of_word}

-- a first word, and a number
abbrev pub word_and_number : List ℕ → ℕ → List (List ℕ)
word_and_number first count = first ∷ decimal count ∷ []

-- that a net of so many transitions and places is live
abbrev pub live_lines : ℕ → ℕ → List (List (List ℕ))
live_lines transitions places = phrase (codes "live") ∷ word_and_number (codes "transitions") transitions ∷ word_and_number (codes "places") places ∷ []

-- that a net has no circuit
abbrev pub no_circuit_line : List (List ℕ)
no_circuit_line = phrase (codes "no circuit")

-- how texts speak of a file
abbrev pub file_words : Which → List (List ℕ)
file_words NetFile = phrase (codes "the net")
file_words DueFile = phrase (codes "the due file")
file_words LogFile = phrase (codes "the log")
file_words TimetableFile = phrase (codes "the timetable")

-- that a file is longer than its limit
abbrev pub too_large_line : Which → List (List ℕ)
too_large_line file = phrase (codes "refused:") ++ (file_words file ++ phrase (codes "is longer than 4194304 bytes"))

-- that a file could not be read
abbrev pub read_fault_line : Which → List (List ℕ)
read_fault_line file = phrase (codes "fault: cannot read") ++ file_words file

-- that no transition has a name
abbrev pub no_transition_line : List ℕ → List (List ℕ)
no_transition_line name = phrase (codes "refused: no transition") ++ label_word name ∷ []

-- that no settled form is as short as the limit
abbrev pub too_long_line : ℕ → List (List ℕ)
too_long_line limit = phrase (codes "too long: no settled form within") ++ decimal limit ∷ []

-- the date of a firing of a transition of this name
abbrev pub date_line : List ℕ → ℕ → DateOf → List (List ℕ)
date_line name number date = codes "date" ∷ name ∷ decimal number ∷ date_word date ∷ []

-- a file, by the first word of its name in texts
abbrev pub file_in : List ℕ → Which
file_in word = if bytes_eq word (codes "net") then NetFile else if bytes_eq word (codes "due") then DueFile else if bytes_eq word (codes "log") then LogFile else TimetableFile

-- the size of a live net
abbrev pub live_in : List (List (List ℕ)) → Answer
live_in lines = Live (number_in (word 1 (line_at 1 lines))) (number_in (word 1 (line_at 2 lines)))

-- the date of a firing
abbrev pub dated_in : NetLists → List (List ℕ) → Answer
dated_in net line = Date (transition_in net (word 1 line)) (number_in (word 2 line)) (date_of_word (word 3 line))
