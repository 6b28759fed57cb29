-- Rows of latest dates that are told, and what it means that they solve the backward equations (chapter 5).
use Rattle.std.specs.Prelude.{ℕ, ◌≡◌, ◌↔◌, List, length, Option, Some, Any}
use Rattle.dioid.specs.declared.dates.Date.{Date}
use Rattle.teg_net.specs.Nets.{NetLists, HasEndsInRange}
use Rattle.teg_net.specs.Circuits.{IsLive}
use Rattle.teg_due.specs.declared.rows.DueRow.{DueRow}
use Rattle.teg_due.specs.RowRules.{IsDueOf}
use Rattle.due_laws.specs.LatestDates.{AreLatestDates}
use Rattle.latest_laws.specs.BackwardSolutions.{SolveBackwards}
use Rattle.dating_certificates.specs.CheckedRows.{date_up_to, AreRowsOf}

-- the row says that firing k of transition t is due at d
pub record IsRowOf (r : DueRow) (t k d : ℕ) : Type 0 where
  pub transition : r.transition.index ≡ t
  pub number : r.number ≡ k
  pub date : r.date ≡ d

-- what is due is just what the rows say
abbrev pub ListsDues : List DueRow → (ℕ → ℕ → Option ℕ) → Type 0
ListsDues rows due = (t k d : ℕ) → (due t k ≡ Some d) ↔ Any (λ r. IsRowOf r t k d) rows

-- the rows of a due list say what is due
abbrev pub DuesAreListed : Type 0
DuesAreListed = (net : NetLists) (rows : List DueRow) → IsDueOf net rows → (due : ℕ → ℕ → Option ℕ) × ListsDues rows due

-- and they say one thing of each firing
abbrev pub DuesAreOne : Type 0
DuesAreOne = (rows : List DueRow) (due other : ℕ → ℕ → Option ℕ) → ListsDues rows due → ListsDues rows other → (t k : ℕ) → due t k ≡ other t k

-- the dates are whole rows up to this number, nothing past it is due, and each date is the least of its due date, of the
-- date at the next number, and over the places out of its transition of the date at their end, so many tokens on, less the hold
pub record AreLocallyLatest (net : NetLists) (due : ℕ → ℕ → Option ℕ) (numbers : ℕ) (dates : List Date) : Type 0 where
  pub whole : AreRowsOf net dates numbers
  pub solve : SolveBackwards net due numbers (date_up_to numbers (length net.transitions) dates)

-- the dates are whole rows up to this number, those of the latest dates of the net, which past it are never
pub record AreLatestRows (net : NetLists) (due : ℕ → ℕ → Option ℕ) (numbers : ℕ) (dates : List Date) : Type 0 where
  pub whole : AreRowsOf net dates numbers
  pub latest : AreLatestDates net due (date_up_to numbers (length net.transitions) dates)

-- rows of a live net that are the least of what is ahead are those of its latest dates, and no others are
abbrev pub LocallyLatestRowsAreLatest : Type 0
LocallyLatestRowsAreLatest = (net : NetLists) → HasEndsInRange net → IsLive net → (due : ℕ → ℕ → Option ℕ) (numbers : ℕ) (dates : List Date)
    → AreLocallyLatest net due numbers dates ↔ AreLatestRows net due numbers dates
