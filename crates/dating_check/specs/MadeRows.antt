-- Working definitions of how rows of latest dates are made, number by number from the last down.
use Rattle.std.specs.Prelude.{ℕ, pos, ◌+◌, ◌-◌, ◌*◌, ◌<◌, ◌≤◌, ◌≡◌, List, Option, length, All, slice_index_or}
use Rattle.dioid.specs.declared.dates.Date.{Date}
use Rattle.dioid.specs.declared.dates.Date.TheVariants.{At}
use Rattle.dioid.specs.Dates.{IsAtMostDate, delayed}
use Rattle.teg_net.specs.Nets.{NetLists}
use Rattle.teg_net.specs.Circuits.{from_of, place_at}
use Rattle.teg_due.specs.declared.rows.DueRow.{DueRow}
use Rattle.due_laws.specs.LatestDates.{AreLatestDates}
use Rattle.dating_certificates.specs.CheckedRows.{date_up_to}
use Rattle.latest_certificates.specs.LatestRows.{ListsDues}
use Rattle.dating_check.specs.declared.back_order.Placed.{Placed}

-- where the date of firing k of transition t stands
abbrev pub date_index : ℕ → ℕ → ℕ → ℕ
date_index width t k = (k - 1) * width + t

-- no latest date that is made is further below 0
abbrev pub greatest_fall : ℕ
greatest_fall = 100000000000000000000000000

-- no date is further below 0
abbrev pub AreFrom : ℕ → List Date → Type 0
AreFrom fall dates = All (λ d. IsAtMostDate (At (pos 0)) (delayed fall d)) dates

-- these are the latest dates for what the rows list
abbrev pub IsLatestFor : NetLists → List DueRow → (ℕ → ℕ → Date) → Type 0
IsLatestFor net rows y = (due : ℕ → ℕ → Option ℕ) × ListsDues rows due × AreLatestDates net due y

-- rows on the way to the latest dates y, those of greater numbers than k being there: no date is below, each keeps what is due,
-- and of number k the first ones keep the next number
pub record IsMade (net : NetLists) (rows : List DueRow) (numbers k next : ℕ) (y : ℕ → ℕ → Date) (dates : List Date) : Type 0 where
  pub above : (t s : ℕ) → t < length net.transitions → k < s → date_up_to numbers (length net.transitions) dates t s ≡ y t s
  pub low : (t s : ℕ) → t < length net.transitions → 1 ≤ s → IsAtMostDate (y t s) (date_up_to numbers (length net.transitions) dates t s)
  pub due : All (λ r. IsAtMostDate (date_up_to numbers (length net.transitions) dates r.transition.index r.number) (At (pos r.date))) rows
  pub nexts : (t : ℕ) → t < length net.transitions → t < next → IsAtMostDate (date_up_to numbers (length net.transitions) dates t k) (y t (k + 1))

-- the first places of the order keep the dates at their ends
abbrev pub AreKept : NetLists → List Placed → ℕ → ℕ → ℕ → (ℕ → ℕ → Date) → List Date → Type 0
AreKept net order numbers k first y dates = (c : ℕ) (d : Placed) → c < length order → c < first
    → IsAtMostDate (delayed (place_at net (slice_index_or order c d).place).hold
    (date_up_to numbers (length net.transitions) dates (from_of net (slice_index_or order c d).place) k))
    (y (place_at net (slice_index_or order c d).place).to.index (k + (place_at net (slice_index_or order c d).place).tokens))

-- one of the numbers from 1 to so many
pub record IsNumberTo (numbers k : ℕ) : Type 0 where
  pub first : 1 ≤ k
  pub last : k ≤ numbers
