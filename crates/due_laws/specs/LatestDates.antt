-- The latest dates of firings, and the walks that show that a date is tight or late (chapter 5).
use Rattle.std.specs.Prelude.{ℕ, pos, ◌+◌, ◌<◌, ◌≤◌, ◌≡◌, ◌≢◌, List, length, Option, Some}
use Rattle.teg_model.specs.dioid.declared.dates.Date.{Date}
use Rattle.teg_model.specs.dioid.declared.dates.Date.TheVariants.{At, Never}
use Rattle.teg_model.specs.dioid.Dates.{IsAtMostDate, delayed}
use Rattle.teg_model.specs.teg_net.Nets.{NetLists}
use Rattle.teg_model.specs.teg_net.ReadyDates.{start_date}
use Rattle.teg_model.specs.teg_net.declared.walks.Step.{Step}
use Rattle.teg_model.specs.teg_net.declared.walks.Walk.{Walk}
use Rattle.teg_model.specs.teg_net.Walks.{Walks, IsWalk, walk_time}

-- a walk from firing k of transition t leads to a firing that is due, and its due date less the time of the walk is this date
pub record IsDateToDue (net : NetLists) (due : ℕ → ℕ → Option ℕ) (t k : ℕ) (date : Date) : Type 0 where
  pub to : ℕ
  pub number : ℕ
  pub due_date : ℕ
  pub steps : List Step
  pub walk : Walks net t k steps to number
  pub is_due : due to number ≡ Some due_date
  pub is : delayed (walk_time net steps) date ≡ At (pos due_date)

-- the least due date less time over all walks from the firing to one that is due; never where there is no such walk
pub record IsLatestDate (net : NetLists) (due : ℕ → ℕ → Option ℕ) (t k : ℕ) (date : Date) : Type 0 where
  pub attained : date ≢ Never → IsDateToDue net due t k date
  pub least : (d : Date) → IsDateToDue net due t k d → IsAtMostDate date d

-- the latest date of each firing of the net
abbrev pub AreLatestDates : NetLists → (ℕ → ℕ → Option ℕ) → (ℕ → ℕ → Date) → Type 0
AreLatestDates net due y = (t k : ℕ) → t < length net.transitions → 1 ≤ k → IsLatestDate net due t k (y t k)

-- a walk from this firing to one that is due, of which the due date less the time is the date; with the latest date of the
-- firing it is tight
pub record IsTightWalk (net : NetLists) (due : ℕ → ℕ → Option ℕ) (t k : ℕ) (date : Date) (w : Walk) : Type 0 where
  pub is_walk : IsWalk net w
  pub from : w.start.index ≡ t
  pub number : w.number ≡ k
  pub leads : (b n d : ℕ) × Walks net t k w.steps.items b n × (due b n ≡ Some d) × (delayed (walk_time net w.steps.items) date ≡ At (pos d))

-- a walk that ends at firing k of transition t, the start of its first firing, and the date that both make: start plus time
pub record IsLateWalk (net : NetLists) (t k start date : ℕ) (w : Walk) : Type 0 where
  pub is_walk : IsWalk net w
  pub ends : Walks net w.start.index w.number w.steps.items t k
  pub starts : start ≡ start_date net w.start.index w.number
  pub takes : start + walk_time net w.steps.items ≡ date
