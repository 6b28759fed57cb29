-- Walks to endless due dates, begun later and later: what finitely many of them show of all releases (chapter 5).
use Rattle.std.specs.Prelude.{ℕ, pos, ◌+◌, ◌*◌, ◌<◌, ◌≤◌, ◌≡◌, ◌≢◌, List, Option, Some, length, slice_get}
use Rattle.dioid.specs.declared.dates.Date.{Date}
use Rattle.dioid.specs.declared.dates.Date.TheVariants.{At, Never}
use Rattle.dioid.specs.Dates.{delayed, move}
use Rattle.teg_net.specs.declared.walks.Step.{Step}
use Rattle.teg_net.specs.Nets.{NetLists, HasEndsInRange, IsInput}
use Rattle.teg_net.specs.Walks.{Walks, walk_time}
use Rattle.due_laws.specs.MeetingDueDates.{AreInputs, InputsMeet, AreLatestInputs}
use Rattle.due_laws.specs.LatestDates.{IsDateToDue, IsLatestDate}
use Rattle.endless_due.specs.declared.row.EndlessRow.{EndlessRow}
use Rattle.endless_due.specs.EndlessRows.{row_due, due_on, IsEndlessRow, IsEndlessOf}

-- from firing k of transition t the steps lead to firing n of the row's transition, and its due date less their time is the date
pub record IsWalkToRow (net : NetLists) (r : EndlessRow) (t k : ℕ) (date : Date) (steps : List Step) (n : ℕ) : Type 0 where
  pub walk : Walks net t k steps r.transition.index n
  pub due_date : ℕ
  pub is_due : row_due r n ≡ Some due_date
  pub is : delayed (walk_time net steps) date ≡ At (pos due_date)

-- where the row goes on, a walk that is begun some rounds later leads to a firing that is due as many gaps later
abbrev pub WalksMoveOn : Type 0
WalksMoveOn = (net : NetLists) (r : EndlessRow) → IsEndlessRow net r → (t k : ℕ) (date : Date) (steps : List Step) (n : ℕ) → IsWalkToRow net r t k date steps n
    → length r.dates < n + r.every → (rounds : ℕ)
    → IsWalkToRow net r t (k + rounds * r.every) (move (pos (rounds * r.gap)) date) steps (n + rounds * r.every)

-- a walk to a row where it goes on, some rounds of which take so many firings and rise by so much
pub record IsTurningWalk (net : NetLists) (rows : List EndlessRow) (t k : ℕ) (date : Date) (turn rise : ℕ) : Type 0 where
  pub index : ℕ
  pub row : EndlessRow
  pub is_row : slice_get rows index ≡ Some row
  pub steps : List Step
  pub number : ℕ
  pub walk : IsWalkToRow net row t k date steps number
  pub goes_on : length row.dates < number + row.every
  pub rounds : ℕ
  pub by_list : turn ≡ rounds * row.every
  pub by_gap : rise ≡ rounds * row.gap

-- past number `start` the dates go on by `rise` in each turn; a walk shows each date up to there, and one that turns as the dates do
-- each of the first turn past it
pub record AreShownByWalks (net : NetLists) (rows : List EndlessRow) (t : ℕ) (v : ℕ → Date) (start turn rise : ℕ) : Type 0 where
  pub some : 1 ≤ turn
  pub again : (k : ℕ) → start < k → v (k + turn) ≡ move (pos rise) (v k)
  pub walks : (k : ℕ) → 1 ≤ k → k ≤ start → IsDateToDue net (due_on rows) t k (v k)
  pub turning : (k : ℕ) → start < k → k ≤ start + turn → IsTurningWalk net rows t k (v k) turn rise

-- so finitely many walks show all dates
abbrev pub FewWalksShowAll : Type 0
FewWalksShowAll = (net : NetLists) (rows : List EndlessRow) → IsEndlessOf net rows → (t : ℕ) (v : ℕ → Date) (start turn rise : ℕ) → AreShownByWalks net rows t v start turn rise
    → (k : ℕ) → 1 ≤ k → IsDateToDue net (due_on rows) t k (v k)

-- inputs that meet what is due are the latest, and their dates the latest dates, where a walk shows each date that is not never
abbrev pub ShownInputsAreLatest : Type 0
ShownInputsAreLatest = (net : NetLists) → HasEndsInRange net → (due : ℕ → ℕ → Option ℕ) (v : ℕ → ℕ → Date) → AreInputs net v → InputsMeet net due v
    → ((t k : ℕ) → IsInput net t → 1 ≤ k → v t k ≢ Never → IsDateToDue net due t k (v t k))
    → AreLatestInputs net due v × ((t k : ℕ) → IsInput net t → 1 ≤ k → IsLatestDate net due t k (v t k))
