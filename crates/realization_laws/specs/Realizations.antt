-- Causal periodic series, and nets whose transfers they are (chapters 5 and 6, realization).
use Rattle.std.specs.Prelude.{ℕ, pos, ◌+◌, ◌<◌, ◌≤◌, ◌≡◌, ◌⊎◌, length}
use Rattle.walk_times.specs.dioid.declared.dates.Date.{Date}
use Rattle.walk_times.specs.dioid.declared.dates.Date.TheVariants.{Early, At}
use Rattle.walk_times.specs.dioid.Dates.{IsAtMostDate, delayed}
use Rattle.walk_times.specs.teg_net.declared.entries.Place.{Place}
use Rattle.walk_times.specs.teg_net.declared.entries.Transition.{Transition}
use Rattle.walk_times.specs.teg_net.Nets.{NetLists, HasEndsInRange, IsInput}
use Rattle.walk_times.specs.teg_net.Circuits.{IsLive}
use Rattle.walk_times.specs.Transfers.{IsGreatestWalkTime, AreWalkTimes}

-- each value is Early or a number from 0 on, no value falls, and from some shift on they go on by a step in each period
pub record IsCausalPeriodic (s : ℕ → Date) : Type 0 where
  pub causal : (k : ℕ) → (s k ≡ Early) ⊎ ((m : ℕ) × (s k ≡ At (pos m)))
  pub never_falls : (k : ℕ) → IsAtMostDate (s k) (s (k + 1))
  pub begin : ℕ
  pub period : ℕ
  pub step : ℕ
  pub some : 1 ≤ period
  pub again : (k : ℕ) → begin ≤ k → s (k + period) ≡ delayed step (s k)

-- a live net with a transition from whose first firing the greatest times of walks to another are the series: its value at
-- shift k is that of firing k + 1
pub record IsRealized (s : ℕ → Date) : Type 0 where
  pub net : NetLists
  pub ends : HasEndsInRange net
  pub live : IsLive net
  pub input : ℕ
  pub output : ℕ
  pub input_in : input < length net.transitions
  pub output_in : output < length net.transitions
  pub transfer : (k : ℕ) → IsGreatestWalkTime net input output (k + 1) (s k)

-- each causal periodic series is realized, whatever the transitions and the places are called
abbrev pub SeriesAreRealized : Type 0
SeriesAreRealized = (s : ℕ → Date) → IsCausalPeriodic s → Transition → Place → IsRealized s

-- the greatest times of walks from the first firing of an input of a live net to the firings of each transition are such a series
abbrev pub TransfersArePeriodic : Type 0
TransfersArePeriodic =
    (net : NetLists) → HasEndsInRange net → IsLive net → (input : ℕ) → IsInput net input
    → (x : ℕ → ℕ → Date) × AreWalkTimes net input x × ((t : ℕ) → t < length net.transitions → IsCausalPeriodic (λ k. x t (k + 1)))
