-- Working definitions of how rows of dates tell delays.
use Rattle.std.specs.Prelude.{ℕ, ℤ, List}
use Rattle.dioid.specs.declared.dates.Date.{Date}
use Rattle.settled_certificates.specs.SettledRows.{form_by_rows}
use Rattle.delay_laws.specs.declared.table.Timetable.{Timetable}
use Rattle.delay_laws.specs.SettlingLaws.{delay_by_form}

-- the delay of transition t at number k by the form that rows of this many dates tell
abbrev pub delay_by_rows : (width : ℕ) → List Date → (after turn : ℕ) → List ℤ → (period : ℕ) → Timetable → ℕ → ℕ → ℕ
delay_by_rows width dates after turn steps period table t k = delay_by_form (form_by_rows width dates after turn steps) period table t k
