-- Working definitions of how a form that is told is checked: the dates of the window, the steps, and the releases.
use Rattle.std.specs.Prelude.{ℕ, ℤ, pos, ◌+◌, ◌<◌, ◌≤◌, ◌≡◌, ◌⊎◌, List, length, All, slice_index_or, Option, Some, None}
use Rattle.dioid.specs.declared.dates.Date.TheVariants.{Early, Never}
use Rattle.dioid.specs.Dates.{delayed, move}
use Rattle.teg_net.specs.declared.entries.Again.{Again}
use Rattle.teg_net.specs.declared.entries.Place.{Place}
use Rattle.teg_net.specs.Nets.{NetLists, IsInput}
use Rattle.teg_net.specs.Limits.{most_input_dates, greatest_every}
use Rattle.teg_model.specs.Datings.{listed_releases}
use Rattle.dating_certificates.specs.ToldRows.{ToldDates, date_told}
use Rattle.settled_certificates.specs.SettledWindows.{StepsRiseAlong}

-- rows of a net, the number past which they are said to go on, the period, and a step for each transition
pub record ToldForm : Type 0 where
  pub told : ToldDates
  pub after : ℕ
  pub period : ℕ
  pub steps : List ℤ

abbrev pub told_form : ToldDates → ℕ → ℕ → List ℤ → ToldForm
told_form told after period steps = record { told = told; after = after; period = period; steps = steps }

-- the step of a transition
abbrev pub step_told : ToldForm → ℕ → ℤ
step_told f t = slice_index_or f.steps t (pos 0)

-- the rows have room behind `after` for two periods and one number more, and there is a step for each transition
pub record IsFormSized (f : ToldForm) : Type 0 where
  pub at_least_one : 1 ≤ f.period
  pub room : f.after + f.period + f.period < f.told.numbers
  pub steps_are : length f.steps ≡ length f.told.net.transitions
  pub small : f.told.numbers ≤ 100000000000000000

-- a period after this number each date has moved by its step
abbrev pub MovesAt : ToldForm → ℕ → Type 0
MovesAt f k = (t : ℕ) → t < length f.told.net.transitions → date_told f.told t (k + f.period) ≡ move (step_told f t) (date_told f.told t k)

-- so it is from `after` on as far as the rows go
abbrev pub MovesOn : ToldForm → Type 0
MovesOn f = (k : ℕ) → f.after < k → k + f.period ≤ f.told.numbers → MovesAt f k

-- the step does not fall along the place
pub record RisesAlong (f : ToldForm) (p : Place) : Type 0 where
  pub rises : StepsRiseAlong (date_told f.told) f.told.numbers (step_told f) p

-- no step falls along a place
abbrev pub StepsRise : ToldForm → Type 0
StepsRise f = All (RisesAlong f) f.told.net.places

-- the rows have room for the tokens of each place
abbrev pub HasTokenRoom : ToldForm → Type 0
HasTokenRoom f = All (λ p. f.after + p.tokens + f.period + f.period ≤ f.told.numbers) f.told.net.places

-- the step is 0 of a transition whose date right past `after` is never or early
abbrev pub StaysStill : ToldForm → ℕ → Type 0
StaysStill f t = (date_told f.told t (f.after + 1) ≡ Never) ⊎ (date_told f.told t (f.after + 1) ≡ Early) → step_told f t ≡ pos 0

abbrev pub StayStill : ToldForm → Type 0
StayStill f = (t : ℕ) → t < length f.told.net.transitions → StaysStill f t

-- past `long` the releases of the transition go on by some gap in each `every` numbers
pub record ReleasesGoOn (net : NetLists) (t long every : ℕ) : Type 0 where
  pub some : 1 ≤ every
  pub gap : ℕ
  pub again : (k : ℕ) → long < k → listed_releases net t (k + every) ≡ delayed gap (listed_releases net t k)
  pub few : long ≤ most_input_dates
  pub short : every ≤ greatest_every

-- in how many numbers a list goes on past its dates
abbrev pub every_told : Option Again → ℕ
every_told None = 1
every_told (Some a) = a.every

-- a period after this number the release of the transition has moved by its step
abbrev pub ReleaseMovesAt : ToldForm → ℕ → ℕ → Type 0
ReleaseMovesAt f t k = listed_releases f.told.net t (k + f.period) ≡ move (step_told f t) (listed_releases f.told.net t k)

-- past `after` the releases of the transition move so
abbrev pub ReleaseMoves : ToldForm → ℕ → Type 0
ReleaseMoves f t = (k : ℕ) → f.after < k → ReleaseMovesAt f t k

-- those of the transition do if it is an input
abbrev pub InputMoves : ToldForm → ℕ → Type 0
InputMoves f t = IsInput f.told.net t → ReleaseMoves f t

-- those of each input do
abbrev pub ReleasesMoveOn : ToldForm → Type 0
ReleasesMoveOn f = (t : ℕ) → t < length f.told.net.transitions → InputMoves f t

-- all that is checked of the form, its sizes too
pub record IsFormTold (f : ToldForm) : Type 0 where
  pub sized : IsFormSized f
  pub tokens : HasTokenRoom f
  pub moves : MovesOn f
  pub rises : StepsRise f
  pub still : StayStill f
  pub releases : ReleasesMoveOn f
