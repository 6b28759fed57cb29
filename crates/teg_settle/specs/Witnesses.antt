-- Working definitions of the tests of a period.
use Rattle.std.specs.Prelude.{ℕ, ◌+◌, ◌≤◌, All}
use Rattle.teg_net.specs.Nets.{NetLists}
use Rattle.date_rows.specs.DateTables.{TableDates}
use Rattle.teg_settle.specs.declared.releases.Releases.{Releases}
use Rattle.list_spans.specs.Spans.{AreSpans}
use Rattle.teg_settle.specs.ComparedRows.{AreComparedRows, IsRisingPlace, IsMovedAt, IsMovedPast, AreReleasedAlike}

-- a period that is tested on rows of dates and on releases, past a number
pub record TestedPeriod : Type 0 where
  pub net : NetLists
  pub releases : Releases
  pub rows : TableDates
  pub period : ℕ
  pub after : ℕ

-- the test of this period
abbrev pub tested_period : NetLists → Releases → TableDates → ℕ → ℕ → TestedPeriod
tested_period net r rows period after = record { net = net; releases = r; rows = rows; period = period; after = after }

-- the rows have room for the period, past the number too, and the releases tell from where on lists go on evenly
pub record IsTestable (net : NetLists) (r : Releases) (rows : TableDates) (period after : ℕ) : Type 0 where
  pub window : AreComparedRows net rows period
  pub room : after + period ≤ rows.count
  pub spans : AreSpans net r.spans.items

-- the tests of the period
pub record AreTested (t : TestedPeriod) : Type 0 where
  pub rising : All (IsRisingPlace t.rows t.period) t.net.places
  pub moved : IsMovedPast t.rows t.period t.after
  pub alike : AreReleasedAlike t.net t.releases t.rows t.period t.after

-- one of them fails
abbrev pub IsFailed : TestedPeriod → Type 0
IsFailed t = AreTested t → ⊥

-- all pass, and from no number on that is less the dates of the rows move by their steps
pub record IsPassed (t : TestedPeriod) (from : ℕ) : Type 0 where
  pub tests : AreTested t
  pub early : from ≤ t.after
  pub moved : IsMovedPast t.rows t.period from
  pub first : 1 ≤ from → IsMovedAt t.rows t.period from → ⊥
