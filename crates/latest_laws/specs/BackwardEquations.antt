-- The equations of the latest dates, which go back from the firings ahead (chapter 5).
use Rattle.std.specs.Prelude.{ℕ, pos, ◌+◌, ◌<◌, ◌≤◌, ◌≡◌, ◌⊎◌, length, Option, Some, All}
use Rattle.teg_model.specs.dioid.declared.dates.Date.{Date}
use Rattle.teg_model.specs.dioid.declared.dates.Date.TheVariants.{At}
use Rattle.teg_model.specs.dioid.Dates.{IsAtMostDate, delayed}
use Rattle.teg_model.specs.teg_net.declared.entries.PlaceId.{PlaceId}
use Rattle.teg_model.specs.teg_net.Nets.{NetLists, HasEndsInRange}
use Rattle.teg_model.specs.teg_net.Circuits.{place_at}
use Rattle.due_laws.specs.LatestDates.{AreLatestDates}
use Rattle.latest_laws.specs.Floats.{IsAtMostOn}

-- firing k of transition t is in time at this date for the dates ahead: not after its due date nor after the date of the next
-- firing, and a hold later not after the date to which a place out of the transition leads, so many tokens on
pub record IsInTime (net : NetLists) (due : ℕ → ℕ → Option ℕ) (y : ℕ → ℕ → Date) (t k : ℕ) (date : Date) : Type 0 where
  pub due_date : (d : ℕ) → due t k ≡ Some d → IsAtMostDate date (At (pos d))
  pub next : IsAtMostDate date (y t (k + 1))
  pub places : All (λ p. p.from.index ≡ t → IsAtMostDate (delayed p.hold date) (y p.to.index (k + p.tokens))) net.places

-- each firing is in time for the dates ahead
abbrev pub AreInTime : NetLists → (ℕ → ℕ → Option ℕ) → (ℕ → ℕ → Date) → Type 0
AreInTime net due y = (t k : ℕ) → t < length net.transitions → 1 ≤ k → IsInTime net due y t k (y t k)

-- the date is the due date
abbrev pub IsDueThen : (ℕ → ℕ → Option ℕ) → ℕ → ℕ → Date → Type 0
IsDueThen due t k date = (d : ℕ) × (due t k ≡ Some d) × (date ≡ At (pos d))

-- the date is a hold before the one to which a place out of the transition leads
abbrev pub IsHoldBefore : NetLists → (ℕ → ℕ → Date) → ℕ → ℕ → Date → Type 0
IsHoldBefore net y t k date = (p : PlaceId) × (p.index < length net.places) × ((place_at net p).from.index ≡ t)
    × (delayed (place_at net p).hold date ≡ y (place_at net p).to.index (k + (place_at net p).tokens))

-- the date is the least of the due date, of the date at the next number, and over the places out of the transition of the date
-- at their end, so many tokens on, less the hold: in time, and one of them
pub record IsLeastAhead (net : NetLists) (due : ℕ → ℕ → Option ℕ) (y : ℕ → ℕ → Date) (t k : ℕ) (date : Date) : Type 0 where
  pub in_time : IsInTime net due y t k date
  pub one : IsDueThen due t k date ⊎ ((date ≡ y t (k + 1)) ⊎ IsHoldBefore net y t k date)

-- the backward equations hold of the latest dates
abbrev pub LatestDatesAreLeastAhead : Type 0
LatestDatesAreLeastAhead = (net : NetLists) → HasEndsInRange net → (due : ℕ → ℕ → Option ℕ) (y : ℕ → ℕ → Date) → AreLatestDates net due y
    → (t k : ℕ) → t < length net.transitions → 1 ≤ k → IsLeastAhead net due y t k (y t k)

-- no date that is in time for the latest dates ahead comes after the latest date
abbrev pub LatestDatesAreLastInTime : Type 0
LatestDatesAreLastInTime = (net : NetLists) → HasEndsInRange net → (due : ℕ → ℕ → Option ℕ) (y : ℕ → ℕ → Date) → AreLatestDates net due y
    → (t k : ℕ) → t < length net.transitions → 1 ≤ k → (date : Date) → IsInTime net due y t k date → IsAtMostDate date (y t k)

-- the latest dates are the greatest of which each is in time for those ahead
abbrev pub LatestDatesAreGreatestInTime : Type 0
LatestDatesAreGreatestInTime = (net : NetLists) → HasEndsInRange net → (due : ℕ → ℕ → Option ℕ) (y z : ℕ → ℕ → Date) → AreLatestDates net due y
    → AreInTime net due z → IsAtMostOn net z y
