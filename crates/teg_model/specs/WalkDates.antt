-- The dates of walks over firing numbers, start plus time, and the greatest of them (chapter 2).
use Rattle.std.specs.Prelude.{ℕ, ◌<◌, ◌≤◌, ◌≡◌, List, length}
use Rattle.dioid.specs.declared.dates.Date.{Date}
use Rattle.dioid.specs.Dates.{IsAtMostDate, delayed}
use Rattle.teg_net.specs.Nets.{NetLists}
use Rattle.teg_net.specs.declared.walks.Step.{Step}
use Rattle.teg_net.specs.Walks.{Walks, walk_time}
use Rattle.teg_model.specs.Systems.{System}
use Rattle.teg_model.specs.Starts.{IsStartIn, start_of_firing}

-- a walk from a firing with a start ends at firing k of transition b, and the date is that start plus its time
pub record IsDateOfWalkFrom (net : NetLists) (IsStart : ℕ → ℕ → Date → Type 0) (b k : ℕ) (date : Date) : Type 0 where
  pub from : ℕ
  pub number : ℕ
  pub steps : List Step
  pub start : Date
  pub from_in : from < length net.transitions
  pub from_one : 1 ≤ number
  pub walk : Walks net from number steps b k
  pub starts : IsStart from number start
  pub is : date ≡ delayed (walk_time net steps) start

-- the date is one of these, and none is later
pub record IsGreatestDate (IsOne : Date → Type 0) (date : Date) : Type 0 where
  pub reached : IsOne date
  pub greatest : (other : Date) → IsOne other → IsAtMostDate other date

-- the greatest start plus time of the walks of the net that end at firing k of transition b, with the starts of a system
abbrev pub IsGreatestOfWalksIn : NetLists → System → ℕ → ℕ → Date → Type 0
IsGreatestOfWalksIn net s b k date = IsGreatestDate (IsDateOfWalkFrom net (IsStartIn s) b k) date

-- the start of a firing of the net
abbrev pub IsFiringStart : NetLists → (ℕ → ℕ → Date) → ℕ → ℕ → Date → Type 0
IsFiringStart net u t k start = start ≡ start_of_firing net u t k

-- a walk with this start plus time ends at firing k of transition b
abbrev pub IsDateOfWalk : NetLists → (ℕ → ℕ → Date) → ℕ → ℕ → Date → Type 0
IsDateOfWalk net u b k date = IsDateOfWalkFrom net (IsFiringStart net u) b k date

-- the greatest start plus time of the walks that end at firing k of transition b
abbrev pub IsGreatestOfWalks : NetLists → (ℕ → ℕ → Date) → ℕ → ℕ → Date → Type 0
IsGreatestOfWalks net u b k date = IsGreatestDate (IsDateOfWalk net u b k) date
