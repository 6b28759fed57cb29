-- What a file of rows says that an answer was asked with.
use Rattle.std.specs.Prelude.{ℕ, ◌≡◌, List, Ok}
use Rattle.delay_laws.specs.declared.table.Timetable.{Timetable}
use Rattle.endless_due.specs.EndlessFiles.{endless_of}
use Rattle.teg_due.specs.DueFileRows.{due_of}
use Rattle.teg_due.specs.declared.rows.Due.{Due}
use Rattle.teg_net.specs.Nets.{NetLists}
use Rattle.timetable_files.specs.TimetableFiles.{timetable_of, lists_of_table}
use Rattle.answer_audit.specs.declared.files.EndlessDue.{EndlessDue}

-- the bytes of a due file say these rows of the net
abbrev pub SaysDue : NetLists → List ℕ → Due → Type 0
SaysDue net bytes due = due_of net bytes ≡ Ok due.rows.items

-- the bytes of a due file without end say these rows of the net
abbrev pub SaysEndlessDue : NetLists → List ℕ → EndlessDue → Type 0
SaysEndlessDue net bytes due = endless_of net bytes ≡ Ok due.rows.items

-- the bytes of a timetable's file say this timetable of the net
abbrev pub SaysTable : NetLists → List ℕ → Timetable → Type 0
SaysTable net bytes table = timetable_of net bytes ≡ Ok (lists_of_table table)
