-- Earliest runs of a least dating: there are such, one for each order, and what they have (chapter 2).
use Rattle.std.specs.Prelude.{ℕ, pos, ◌<◌, ◌≤◌, ◌≡◌, ◌≢◌, List, length, All, Some}
use Rattle.teg_model.specs.dioid.declared.dates.Date.{Date}
use Rattle.teg_model.specs.dioid.declared.dates.Date.TheVariants.{At, Never}
use Rattle.teg_net.specs.Nets.{NetLists, HasEndsInRange}
use Rattle.teg_net.specs.Circuits.{IsLive}
use Rattle.teg_model.specs.Datings.{IsLeastDating}
use Rattle.run_laws.specs.declared.fired.Fired.{Fired}
use Rattle.run_laws.specs.Runs.{dates_of_transition, firing_date, IsLegalRun}
use Rattle.run_laws.specs.LegalRuns.{IsDatedBy}
use Rattle.run_laws.specs.EarliestRuns.{Numbered, IsRunInOrder, IsEarliestRun}

-- a live net has, up to each number, an earliest run of its least dating
abbrev pub EarliestRunsExist : Type 0
EarliestRunsExist =
    (net : NetLists) (x : ℕ → ℕ → Date) (most : ℕ) → HasEndsInRange net → IsLive net
    → IsLeastDating net x → (run : List Fired) × IsEarliestRun net x most run

-- any rank orders one: a net need not be live for that, and the rank need not rise along the places without tokens
abbrev pub EachRankHasAnEarliestRun : Type 0
EachRankHasAnEarliestRun =
    (net : NetLists) (x : ℕ → ℕ → Date) (rank : ℕ → ℕ) (most : ℕ) → IsLeastDating net x
    → (firings : List Numbered) × (run : List Fired) × IsRunInOrder net x rank most firings run

-- there is no second one in the order of the same rank
abbrev pub EarliestRunsAreOne : Type 0
EarliestRunsAreOne =
    (net : NetLists) (x : ℕ → ℕ → Date) (rank : ℕ → ℕ) (most : ℕ) (firings others : List Numbered) (run other : List Fired)
    → IsRunInOrder net x rank most firings run → IsRunInOrder net x rank most others other → run ≡ other

-- the run has each firing up to the number that has a date, at that date, and no further one
pub record IsWholeUpTo (net : NetLists) (x : ℕ → ℕ → Date) (most : ℕ) (run : List Fired) : Type 0 where
  pub known : All (λ f. f.transition.index < length net.transitions) run
  pub dated : IsDatedBy net x run
  pub all : (t k date : ℕ) → t < length net.transitions → 1 ≤ k → k ≤ most → x t k ≡ At (pos date) → firing_date run t k ≡ Some date
  pub no_more : (t : ℕ) → t < length net.transitions → length (dates_of_transition run t) ≤ most
  pub count : (t : ℕ) → t < length net.transitions → x t most ≢ Never → length (dates_of_transition run t) ≡ most

-- the earliest runs of the least dating are whole: a transition whose date of this number is not never fires so often
abbrev pub EarliestRunsAreWhole : Type 0
EarliestRunsAreWhole =
    (net : NetLists) (x : ℕ → ℕ → Date) (most : ℕ) (run : List Fired)
    → IsLeastDating net x → IsEarliestRun net x most run → IsWholeUpTo net x most run

-- earliest runs of any two ranks have the same dates of each transition
abbrev pub EarliestRunsAreAlike : Type 0
EarliestRunsAreAlike =
    (net : NetLists) (x : ℕ → ℕ → Date) (most : ℕ) (run other : List Fired) → IsLeastDating net x
    → IsEarliestRun net x most run → IsEarliestRun net x most other
    → (t : ℕ) → t < length net.transitions → dates_of_transition run t ≡ dates_of_transition other t

-- the run has each firing up to the number that the other has, and no later
abbrev pub IsNoLaterUpTo : NetLists → ℕ → List Fired → List Fired → Type 0
IsNoLaterUpTo net most run other =
    (t k date : ℕ) → t < length net.transitions → 1 ≤ k → k ≤ most → firing_date other t k ≡ Some date
    → (first : ℕ) × (firing_date run t k ≡ Some first) × (first ≤ date)

-- in a live net no legal run has a firing up to the number before an earliest run has it
abbrev pub EarliestRunsAreFirst : Type 0
EarliestRunsAreFirst =
    (net : NetLists) (x : ℕ → ℕ → Date) (most : ℕ) (run other : List Fired) → HasEndsInRange net → IsLive net → IsLeastDating net x
    → IsEarliestRun net x most run → IsLegalRun net other → IsNoLaterUpTo net most run other
