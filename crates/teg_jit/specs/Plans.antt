-- Plans: the latest dates of the firings up to the greatest number that is due, each with a first step (chapter 5).
use Rattle.std.specs.Prelude.{ℕ, pos, ◌+◌, ◌*◌, ◌<◌, ◌≤◌, ◌≡◌, ◌≢◌, List, [], ◌∷◌, length, slice_index_or, Option, Some, ⊤}
use Rattle.date_rows.specs.dioid.declared.dates.Date.{Date}
use Rattle.date_rows.specs.dioid.declared.dates.Date.TheVariants.{At as on_date, Never}
use Rattle.teg_net.specs.declared.walks.Step.{Step}
use Rattle.teg_net.specs.declared.walks.Step.TheVariants.{By as by_place, Next as to_next}
use Rattle.teg_net.specs.Limits.{most_transitions}
use Rattle.teg_net.specs.Nets.{NetLists}
use Rattle.teg_net.specs.Circuits.{place_at, from_of, IsLive}
use Rattle.date_rows.specs.DateTables.{most_numbers, firing_position}
use Rattle.due_laws.specs.LatestDates.{AreLatestDates}
use Rattle.teg_jit.specs.declared.answers.Onward.{Onward}
use Rattle.teg_jit.specs.declared.answers.Onward.TheVariants.{Due, By, Next}
use Rattle.teg_jit.specs.declared.answers.LatestDate.{LatestDate}
use Rattle.teg_jit.specs.declared.answers.LatestDate.TheVariants.{Free, At}

-- how many transitions and numbers there are, and the latest dates: those of number 1 of each transition, then those of number 2, and so on
pub record PlanDates : Type 0 where
  pub width : ℕ
  pub numbers : ℕ
  pub dates : List LatestDate

-- there is a latest date for each transition and number, within the limits
pub record KeepsSizes (plan : PlanDates) : Type 0 where
  pub width_in : plan.width ≤ most_transitions
  pub numbers_in : plan.numbers ≤ most_numbers
  pub full : length plan.dates ≡ plan.numbers * plan.width

-- the latest date in such a list; past its end each firing is free
abbrev pub latest_in : ℕ → List LatestDate → ℕ → ℕ → LatestDate
latest_in width dates t k = slice_index_or dates (firing_position width t k) Free

-- the latest date of firing k of transition t
abbrev pub latest_at : PlanDates → ℕ → ℕ → LatestDate
latest_at plan t k = latest_in plan.width plan.dates t k

-- a latest date as a date: free is never
abbrev pub date_or_never : LatestDate → Date
date_or_never Free = Never
date_or_never (At d onward) = on_date (pos d)

-- the dates of such a list
abbrev pub dates_of_latest : ℕ → List LatestDate → ℕ → ℕ → Date
dates_of_latest width dates t k = date_or_never (latest_in width dates t k)

-- the dates of the plan, never past its numbers
abbrev pub dates_of_plan : PlanDates → ℕ → ℕ → Date
dates_of_plan plan t k = dates_of_latest plan.width plan.dates t k

-- a first step at which the date of firing k of transition t is attained; due goes before next, and next before a place
abbrev pub IsOnward : NetLists → (ℕ → ℕ → Option ℕ) → (ℕ → ℕ → Date) → ℕ → ℕ → ℕ → Onward → Type 0
IsOnward net due y t k d Due = due t k ≡ Some d
IsOnward net due y t k d Next = (y t (k + 1) ≡ on_date (pos d)) × (due t k ≢ Some d)
IsOnward net due y t k d (By p) =
    (p.index < length net.places) × (from_of net p ≡ t) × (y (place_at net p).to.index (k + (place_at net p).tokens) ≡ on_date (pos (d + (place_at net p).hold)))
    × (due t k ≢ Some d) × (y t (k + 1) ≢ on_date (pos d))

-- a date has such a step
abbrev pub HasOnward : NetLists → (ℕ → ℕ → Option ℕ) → (ℕ → ℕ → Date) → ℕ → ℕ → LatestDate → Type 0
HasOnward net due y t k Free = ⊤
HasOnward net due y t k (At d onward) = IsOnward net due y t k d onward

-- each date of the list has such a step
abbrev pub HaveOnward : NetLists → (ℕ → ℕ → Option ℕ) → List LatestDate → Type 0
HaveOnward net due dates = (t k : ℕ) → t < length net.transitions → 1 ≤ k → HasOnward net due (dates_of_latest (length net.transitions) dates) t k (latest_in (length net.transitions) dates t k)

-- the plan of a live net for these due dates
pub record IsPlanFor (net : NetLists) (due : ℕ → ℕ → Option ℕ) (plan : PlanDates) : Type 0 where
  pub live : IsLive net
  pub width : plan.width ≡ length net.transitions
  pub latest : AreLatestDates net due (dates_of_plan plan)
  pub onward : HaveOnward net due plan.dates

-- the plan of a live net for some due dates
abbrev pub StandsForNet : NetLists → PlanDates → Type 0
StandsForNet net plan = (due : ℕ → ℕ → Option ℕ) × IsPlanFor net due plan

-- the steps are those that the plan gives, one after another, and the last leads to a firing that is due at its latest date
abbrev pub FollowsPlan : NetLists → PlanDates → ℕ → ℕ → List Step → Type 0
FollowsPlan net plan t k [] = (d : ℕ) × (latest_at plan t k ≡ At d Due)
FollowsPlan net plan t k (by_place p ∷ steps) =
    (d : ℕ) × (latest_at plan t k ≡ At d (By p)) × FollowsPlan net plan (place_at net p).to.index (k + (place_at net p).tokens) steps
FollowsPlan net plan t k (to_next ∷ steps) = (d : ℕ) × (latest_at plan t k ≡ At d Next) × FollowsPlan net plan t (k + 1) steps
