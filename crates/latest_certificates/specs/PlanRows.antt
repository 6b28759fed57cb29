-- Rows of latest dates that inputs keep, and what tells it row by row (chapter 5).
use Rattle.std.specs.Prelude.{ℕ, List, length, Option}
use Rattle.dioid.specs.declared.dates.Date.{Date}
use Rattle.teg_net.specs.Nets.{NetLists}
use Rattle.due_laws.specs.MeetingDueDates.{InputsMeet, inputs_at_zero}
use Rattle.latest_laws.specs.MetByStarts.{StartsAreKept}
use Rattle.dating_certificates.specs.CheckedRows.{date_up_to}
use Rattle.latest_certificates.specs.LatestRows.{AreLocallyLatest, AreLatestRows}

-- each date of the rows is the least of what is ahead of it, and none is before the start of its firing
pub record AreLocalPlanRows (net : NetLists) (due : ℕ → ℕ → Option ℕ) (numbers : ℕ) (dates : List Date) : Type 0 where
  pub latest : AreLocallyLatest net due numbers dates
  pub starts : StartsAreKept net numbers (date_up_to numbers (length net.transitions) dates)

-- the rows are those of the latest dates of the net, and inputs at 0 meet what is due
pub record ArePlanRows (net : NetLists) (due : ℕ → ℕ → Option ℕ) (numbers : ℕ) (dates : List Date) : Type 0 where
  pub latest : AreLatestRows net due numbers dates
  pub in_time : InputsMeet net due inputs_at_zero
