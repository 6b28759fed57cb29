-- Working definitions of how rows of latest dates are checked number by number.
use Rattle.std.specs.Prelude.{ℕ, Bool, true, false, pos, ◌+◌, ◌<◌, ◌≡◌, ◌↔◌, ◌⊎◌, List, length, All, slice_index_or}
use Rattle.dioid.specs.declared.dates.Date.TheVariants.{At}
use Rattle.dioid.specs.Dates.{IsAtMostDate, delayed}
use Rattle.teg_net.specs.declared.entries.Place.{Place}
use Rattle.teg_net.specs.Circuits.{no_place}
use Rattle.teg_due.specs.declared.rows.DueRow.{DueRow}
use Rattle.dating_certificates.specs.ToldRows.{ToldDates, date_told}

-- each date of number k is at most that of the next number
abbrev pub NextIsKept : ToldDates → ℕ → Type 0
NextIsKept told k = (t : ℕ) → t < length told.net.transitions → IsAtMostDate (date_told told t k) (date_told told t (k + 1))

-- firing k of the place's start comes a hold before the date at its end, or earlier
abbrev pub IsPlaceKept : ToldDates → ℕ → Place → Type 0
IsPlaceKept told k p = IsAtMostDate (delayed p.hold (date_told told p.from.index k)) (date_told told p.to.index (k + p.tokens))

-- it comes just a hold before
abbrev pub IsPlaceTight : ToldDates → ℕ → Place → Type 0
IsPlaceTight told k p = delayed p.hold (date_told told p.from.index k) ≡ date_told told p.to.index (k + p.tokens)

-- the firing of the row comes by its due date
abbrev pub IsRowKept : ToldDates → DueRow → Type 0
IsRowKept told r = IsAtMostDate (date_told told r.transition.index r.number) (At (pos r.date))

-- firing k of transition t is that of the row, and comes at its due date
pub record IsRowTight (told : ToldDates) (t k : ℕ) (r : DueRow) : Type 0 where
  pub transition : r.transition.index ≡ t
  pub number : r.number ≡ k
  pub date : date_told told t k ≡ At (pos r.date)

-- firing k of transition t comes with the next
abbrev pub IsNextTight : ToldDates → ℕ → ℕ → Type 0
IsNextTight told k t = date_told told t k ≡ date_told told t (k + 1)

-- a place among the first i leaves the transition, and its firing k comes just a hold before
abbrev pub HasTightPlace : ToldDates → ℕ → ℕ → ℕ → Type 0
HasTightPlace told k i t = (q : ℕ) × (q < i) × ((slice_index_or told.net.places q no_place).from.index ≡ t)
    × IsPlaceTight told k (slice_index_or told.net.places q no_place)

-- the row is of a firing of number k, which comes at its due date
abbrev pub IsTightAt : ToldDates → ℕ → DueRow → Type 0
IsTightAt told k r = (r.number ≡ k) × (date_told told r.transition.index k ≡ At (pos r.date))

-- one of the first j rows is of firing k of the transition, which comes at its due date
abbrev pub HasTightRow : ToldDates → List DueRow → ℕ → ℕ → ℕ → Type 0
HasTightRow told rows k j t = (c : ℕ) × (c < j) × ((d : DueRow) → IsRowTight told t k (slice_index_or rows c d))

-- the marked transitions are just those of which this holds
pub record AreMarked (told : ToldDates) (met : List Bool) (holds : ℕ → Type 0) : Type 0 where
  pub full : length met ≡ length told.net.transitions
  pub marks : (t : ℕ) → t < length told.net.transitions → (slice_index_or met t false ≡ true) ↔ holds t

-- firing k of the transition comes with the next, or just a hold before a date to which a place leads
abbrev pub IsMetAhead : ToldDates → ℕ → ℕ → Type 0
IsMetAhead told k t = IsNextTight told k t ⊎ HasTightPlace told k (length told.net.places) t

-- or at its due date
abbrev pub IsMet : ToldDates → List DueRow → ℕ → ℕ → Type 0
IsMet told rows k t = IsMetAhead told k t ⊎ HasTightRow told rows k (length rows) t

-- each date of number k keeps what is ahead, and is met
pub record IsRowSolved (told : ToldDates) (rows : List DueRow) (k : ℕ) : Type 0 where
  pub next : NextIsKept told k
  pub places : All (IsPlaceKept told k) told.net.places
  pub met : (t : ℕ) → t < length told.net.transitions → IsMet told rows k t
