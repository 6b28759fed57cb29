-- A clock beside a net: a transition of its own that fires once each period (chapters 2 and 3).
use Rattle.std.specs.Prelude.{ℕ, ◌<◌, ◌≡◌, ◌≢◌, ◌↔◌, ◌++◌, [], ◌∷◌, length}
use Rattle.teg_model.specs.teg_net.declared.entries.PlaceId.{PlaceId}
use Rattle.teg_model.specs.teg_net.declared.entries.Place.{Place}
use Rattle.teg_model.specs.teg_net.Nets.{NetLists}
use Rattle.teg_model.specs.teg_net.Ratios.{Fraction}
use Rattle.teg_model.specs.teg_net.Circuits.{from_of}
use Rattle.teg_model.specs.teg_net.Parts.{to_of}
use Rattle.teg_model.specs.teg_net.GreatestRatios.{IsGreatestRatio, IsAnyPlace}
use Rattle.teg_critical.specs.Slacks.{raised}
use Rattle.workable_laws.specs.WorkablePeriods.{LeavesCircuitsTime}

-- a place from the clock to itself, with a token that it holds for the period
pub record IsLoopOf (clock period : ℕ) (p : Place) : Type 0 where
  pub from : p.from.index ≡ clock
  pub to : p.to.index ≡ clock
  pub hold : p.hold ≡ period
  pub tokens : p.tokens ≡ 1

-- the second net has such a place behind those of the first, none of which begins or ends at the clock
pub record HasClock (net clocked : NetLists) (clock period : ℕ) : Type 0 where
  pub loop : Place
  pub is_loop : IsLoopOf clock period loop
  pub places : clocked.places ≡ net.places ++ loop ∷ []
  pub from : (p : PlaceId) → p.index < length net.places → from_of net p ≢ clock
  pub to : (p : PlaceId) → p.index < length net.places → to_of net p ≢ clock

-- the period as a ratio
abbrev pub each_period : ℕ → Fraction
each_period period = record { time = period; tokens = 1 }

-- the period is the greatest ratio beside such a clock just where it leaves each circuit of the net its time
abbrev pub ClocksTellPeriods : Type 0
ClocksTellPeriods = (net clocked : NetLists) (clock period : ℕ) → HasClock net clocked clock period
    → IsGreatestRatio clocked IsAnyPlace (each_period period) ↔ LeavesCircuitsTime net period

-- and so what a hold may rise beside the clock is what it may rise at the period
abbrev pub ClocksTellSlack : Type 0
ClocksTellSlack = (net clocked : NetLists) (clock period : ℕ) → HasClock net clocked clock period → (p : PlaceId) → p.index < length net.places → (d : ℕ)
    → IsGreatestRatio (raised clocked p d) IsAnyPlace (each_period period) ↔ LeavesCircuitsTime (raised net p d) period
