-- Lists of dates that are told row after row, and what it means that these rows are tight (chapter 2).
use Rattle.std.specs.Prelude.{ℕ, ◌+◌, ◌-◌, ◌*◌, ◌<◌, ◌≤◌, ◌≡◌, ◌↔◌, List, length, All, slice_index_or, nat_le, if◌then◌else◌}
use Rattle.dioid.specs.declared.dates.Date.{Date}
use Rattle.dioid.specs.declared.dates.Date.TheVariants.{Early, Never}
use Rattle.teg_net.specs.Limits.{greatest_firing_number}
use Rattle.teg_net.specs.Nets.{NetLists, IsNet}
use Rattle.teg_net.specs.Circuits.{IsLive}
use Rattle.teg_model.specs.DateBounds.{IsDateWithin, greatest_least_date}
use Rattle.teg_model.specs.Datings.{IsLeastDating, listed_releases}
use Rattle.dating_certificates.specs.TightRows.{AreTightUpTo}

-- the date of firing k of transition t in rows of this many dates, of which the first is that of number 1
abbrev pub date_in_rows : ℕ → List Date → ℕ → ℕ → Date
date_in_rows width dates t k = slice_index_or dates ((k - 1) * width + t) Early

-- the date of firing k of transition t in rows of this many dates up to a number, and never past it
abbrev pub date_up_to : ℕ → ℕ → List Date → ℕ → ℕ → Date
date_up_to numbers width dates t k = if nat_le k numbers then date_in_rows width dates t k else Never

-- the dates are so many whole rows, one date for each transition
pub record AreRowsOf (net : NetLists) (dates : List Date) (rows : ℕ) : Type 0 where
  pub whole : length dates ≡ rows * length net.transitions
  pub few : rows ≤ greatest_firing_number

-- the dates are whole rows, none is before 0 nor too great for a sum, and each is the latest of what its firing waits for
pub record AreTightRows (net : NetLists) (dates : List Date) : Type 0 where
  pub rows : ℕ
  pub whole : AreRowsOf net dates rows
  pub within : All (IsDateWithin greatest_least_date) dates
  pub tight : AreTightUpTo net (listed_releases net) (date_in_rows (length net.transitions) dates) rows

-- the dates are the first rows of the least dating of the net
pub record AreFirstRows (net : NetLists) (dates : List Date) : Type 0 where
  pub rows : ℕ
  pub whole : AreRowsOf net dates rows
  pub same : (x : ℕ → ℕ → Date) → IsLeastDating net x
      → (t k : ℕ) → t < length net.transitions → 1 ≤ k → k ≤ rows → date_in_rows (length net.transitions) dates t k ≡ x t k

-- tight rows of a live net are the first rows of its least dating, and no others are
abbrev pub TightRowsAreFirstRows : Type 0
TightRowsAreFirstRows = (net : NetLists) → IsNet net → IsLive net → (dates : List Date) → AreTightRows net dates ↔ AreFirstRows net dates
