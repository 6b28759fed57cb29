-- Working definitions of how rows of latest dates are compared with the starts of their firings, number by number.
use Rattle.std.specs.Prelude.{ℕ, pos, ◌<◌, ◌≤◌, length, All}
use Rattle.dioid.specs.declared.dates.Date.TheVariants.{At}
use Rattle.dioid.specs.Dates.{IsAtMostDate}
use Rattle.teg_net.specs.declared.entries.Place.{Place}
use Rattle.teg_net.specs.ReadyDates.{ready_date}
use Rattle.dating_certificates.specs.ToldRows.{ToldDates, date_told}

-- no date of number k is before 0
abbrev pub IsFromZero : ToldDates → ℕ → Type 0
IsFromZero told k = (t : ℕ) → t < length told.net.transitions → IsAtMostDate (At (pos 0)) (date_told told t k)

-- firing k of the place's end, where it takes an initial token, does not come before the token is ready
abbrev pub IsTokenKept : ToldDates → ℕ → Place → Type 0
IsTokenKept told k p = k ≤ p.tokens → IsAtMostDate (At (pos (ready_date p k))) (date_told told p.to.index k)

-- no date of number k is before 0 or before an initial token that its firing takes is ready
pub record KeepsStarts (told : ToldDates) (k : ℕ) : Type 0 where
  pub zero : IsFromZero told k
  pub tokens : All (IsTokenKept told k) told.net.places
