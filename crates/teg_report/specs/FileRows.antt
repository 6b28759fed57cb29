-- Due files and logs that are refused, and recorded runs: their lines, what they keep, and how they are read back.
use Rattle.std.specs.Prelude.{ℕ, ◌<◌, List, [], ◌∷◌, Option, IsSomeAnd, map, length, codes, ⊤, drop, if◌then◌else◌}
use Rattle.std.specs.Fmt.{decimal}
use Rattle.teg_due.specs.declared.rows.DueRefusal.{DueRefusal}
use Rattle.teg_due.specs.declared.rows.DueRefusal.TheVariants.{BadRow as BadDueRow, UnknownTransition as UnknownDue, NotDue, RepeatedDue, OutOfRange as DueOutOfRange, OutOfMemory as NoDueRoom}
use Rattle.teg_due.specs.declared.rows.LogRefusal.{LogRefusal}
use Rattle.teg_due.specs.declared.rows.LogRefusal.TheVariants.{BadRow as BadLogRow, UnknownTransition as UnknownFiring, OutOfRange as LogOutOfRange, OutOfMemory as NoLogRoom}
use Rattle.teg_net.specs.Nets.{NetLists}
use Rattle.teg_report.specs.declared.answer.Failure.{Failure}
use Rattle.teg_report.specs.declared.answer.Failure.TheVariants.{Illegal, BackInTime, BeforeRelease}
use Rattle.teg_text.specs.Faults.{row_line}
use Rattle.teg_text.specs.Lines.{phrase}
use Rattle.teg_text.specs.WordsOfNames.{name_of_place, place_named}
use Rattle.teg_report.specs.AnswerValues.{Answer, Replayed, Refused, Log}
use Rattle.teg_text.specs.WordReading.{line_at, word, stands_at, number_in, phrase_in}
use Rattle.teg_lines.specs.Widths.{IsWord32}

-- why a file is no due file; nothing is told of want of memory
abbrev pub due_line : DueRefusal → List (List ℕ)
due_line (BadDueRow row) = row_line (codes "due") row (phrase (codes "is not a due date"))
due_line (UnknownDue row) = row_line (codes "due") row (phrase (codes "unknown transition"))
due_line (NotDue row) = row_line (codes "due") row (phrase (codes "input transition"))
due_line (RepeatedDue row) = row_line (codes "due") row (phrase (codes "repeated"))
due_line (DueOutOfRange row) = row_line (codes "due") row (phrase (codes "out of range"))
due_line NoDueRoom = []

-- why a file is no log; nothing is told of want of memory
abbrev pub log_line : LogRefusal → List (List ℕ)
log_line (BadLogRow row) = row_line (codes "log") row (phrase (codes "is not a firing"))
log_line (UnknownFiring row) = row_line (codes "log") row (phrase (codes "unknown transition"))
log_line (LogOutOfRange row) = row_line (codes "log") row (phrase (codes "out of range"))
log_line NoLogRoom = []

-- why a recorded firing is refused
abbrev pub failure_words : NetLists → Failure → List (List ℕ)
failure_words net (Illegal place) = codes "illegal" ∷ codes "place" ∷ name_of_place net place ∷ []
failure_words net BackInTime = phrase (codes "back in time")
failure_words net BeforeRelease = phrase (codes "before release")

-- how many firings of a log were accepted, where none was refused, and a line of each monitor
abbrev pub replayed_lines : ℕ → List (List ℕ) → List (List (List ℕ))
replayed_lines accepted lines = (codes "replayed" ∷ decimal accepted ∷ codes "firings" ∷ []) ∷ map phrase lines

-- why a row of a log was refused, and a line of each monitor
abbrev pub refused_lines : NetLists → ℕ → Failure → List (List ℕ) → List (List (List ℕ))
refused_lines net row failure lines = row_line (codes "log") row (failure_words net failure) ∷ map phrase lines

-- a place that is named is one of the net, which is then given
abbrev pub IsFailureIn : Option NetLists → Failure → Type 0
IsFailureIn net (Illegal place) = IsSomeAnd net (λ n. place.index < length n.places)
IsFailureIn net BackInTime = ⊤
IsFailureIn net BeforeRelease = ⊤

-- what a refusal of a due file keeps; it is not want of memory
abbrev pub IsDueKept : DueRefusal → Type 0
IsDueKept (BadDueRow row) = IsWord32 row
IsDueKept (UnknownDue row) = IsWord32 row
IsDueKept (NotDue row) = IsWord32 row
IsDueKept (RepeatedDue row) = IsWord32 row
IsDueKept (DueOutOfRange row) = IsWord32 row
IsDueKept NoDueRoom = ⊥

-- what a refusal of a log keeps; it is not want of memory
abbrev pub IsLogKept : LogRefusal → Type 0
IsLogKept (BadLogRow row) = IsWord32 row
IsLogKept (UnknownFiring row) = IsWord32 row
IsLogKept (LogOutOfRange row) = IsWord32 row
IsLogKept NoLogRoom = ⊥

-- a refused due file
abbrev pub due_refusal_in : List (List ℕ) → DueRefusal
due_refusal_in line =
    if stands_at 4 line (codes "is") then BadDueRow (number_in (word 3 line))
    else if stands_at 4 line (codes "unknown") then UnknownDue (number_in (word 3 line))
    else if stands_at 4 line (codes "input") then NotDue (number_in (word 3 line))
    else if stands_at 4 line (codes "repeated") then RepeatedDue (number_in (word 3 line))
    else DueOutOfRange (number_in (word 3 line))

-- a recorded run
abbrev pub replayed_in : List (List (List ℕ)) → Answer
replayed_in lines = Replayed (number_in (word 1 (line_at 0 lines))) (map phrase_in (drop 1 lines))

-- why a recorded firing was refused
abbrev pub failure_in : NetLists → List (List ℕ) → Failure
failure_in net line = if stands_at 4 line (codes "illegal") then Illegal (place_named net (word 6 line)) else if stands_at 4 line (codes "back") then BackInTime else BeforeRelease

-- a refused log, or a refused row of a log
abbrev pub log_in : NetLists → List (List (List ℕ)) → Answer
log_in net lines =
    if stands_at 4 (line_at 0 lines) (codes "is") then Log (BadLogRow (number_in (word 3 (line_at 0 lines))))
    else if stands_at 4 (line_at 0 lines) (codes "unknown") then Log (UnknownFiring (number_in (word 3 (line_at 0 lines))))
    else if stands_at 4 (line_at 0 lines) (codes "out") then Log (LogOutOfRange (number_in (word 3 (line_at 0 lines))))
    else Refused (number_in (word 3 (line_at 0 lines))) (failure_in net (line_at 0 lines)) (map phrase_in (drop 1 lines))
