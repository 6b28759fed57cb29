-- What holds of plans, of late rows and of due lists.
use Rattle.std.specs.Prelude.{ℕ, pos, ◌+◌, ◌<◌, ◌≤◌, ◌≡◌, ◌≢◌, ◌↔◌, ◌⊎◌, List, length, All, Option, Some}
use Rattle.date_rows.specs.dioid.declared.dates.Date.{Date}
use Rattle.date_rows.specs.dioid.declared.dates.Date.TheVariants.{At as on_date}
use Rattle.date_rows.specs.dioid.Dates.{delayed}
use Rattle.teg_net.specs.declared.entries.TransitionId.{TransitionId}
use Rattle.teg_net.specs.declared.walks.Step.{Step}
use Rattle.teg_net.specs.declared.walks.Walk.{Walk}
use Rattle.teg_net.specs.Nets.{NetLists, HasEndsInRange}
use Rattle.teg_net.specs.Circuits.{IsLive}
use Rattle.teg_net.specs.ReadyDates.{start_date}
use Rattle.teg_net.specs.Walks.{Walks, walk_time}
use Rattle.date_rows.specs.teg_model.Datings.{IsLeastUnder}
use Rattle.due_laws.specs.MeetingDueDates.{KeepsDues, InputsMeet, inputs_at_zero}
use Rattle.teg_due.specs.declared.rows.DueRow.{DueRow}
use Rattle.teg_due.specs.RowRules.{IsDueOf, due_in}
use Rattle.teg_jit.specs.declared.answers.JitRefusal.TheVariants.{Late}
use Rattle.teg_jit.specs.declared.answers.LatestDate.TheVariants.{Free}
use Rattle.teg_jit.specs.Plans.{PlanDates, KeepsSizes, IsPlanFor, FollowsPlan, latest_at, dates_of_plan}
use Rattle.teg_jit.specs.LateRefusals.{KeepsRow, IsFirstLateDue, LateIsRight}

-- from each firing that is not free the steps of the plan lead to one that is due, and their walk is tight
abbrev pub PlansLead : Type 0
PlansLead = (net : NetLists) → HasEndsInRange net → (plan : PlanDates) → KeepsSizes plan → (due : ℕ → ℕ → Option ℕ) → IsPlanFor net due plan
    → (t k : ℕ) → t < plan.width → 1 ≤ k → k ≤ plan.numbers → latest_at plan t k ≢ Free
    → (steps : List Step) × FollowsPlan net plan t k steps × (b : ℕ) × (n : ℕ) × (d : ℕ) × Walks net t k steps b n × (due b n ≡ Some d)
    × (delayed (walk_time net steps) (dates_of_plan plan t k) ≡ on_date (pos d))

-- a dating keeps the due dates of a list just where it keeps each row
abbrev pub DuesAreKeptByRows : Type 0
DuesAreKeptByRows = (net : NetLists) (rows : List DueRow) → IsDueOf net rows → (x : ℕ → ℕ → Date) → KeepsDues net (due_in rows) x ↔ All (KeepsRow x) rows

-- a refusal that is right and inputs at 0 that meet the due dates exclude each other
abbrev pub LateExcludesMeet : Type 0
LateExcludesMeet = (net : NetLists) (rows : List DueRow) → IsDueOf net rows → (t : TransitionId) (number due least start : ℕ) (walk : Walk)
    → LateIsRight net rows (Late t number due least start walk) → InputsMeet net (due_in rows) inputs_at_zero → ⊥

-- a first row that the least dating with all inputs at 0 exceeds, and the steps of a walk with just that start plus time
pub record IsLate (net : NetLists) (rows : List DueRow) : Type 0 where
  pub x : ℕ → ℕ → Date
  pub is_least_dating : IsLeastUnder net inputs_at_zero x
  pub t : TransitionId
  pub number : ℕ
  pub due : ℕ
  pub least : ℕ
  pub first : IsFirstLateDue x rows t number due least
  pub from : ℕ
  pub from_number : ℕ
  pub steps : List Step
  pub from_in : from < length net.transitions
  pub from_one : 1 ≤ from_number
  pub walk : Walks net from from_number steps t.index number
  pub takes : start_date net from from_number + walk_time net steps ≡ least

-- inputs at 0 meet the due dates, or some row is late
abbrev pub MeetOrLate : Type 0
MeetOrLate = (net : NetLists) (rows : List DueRow) → HasEndsInRange net → IsLive net → IsDueOf net rows → InputsMeet net (due_in rows) inputs_at_zero ⊎ IsLate net rows
