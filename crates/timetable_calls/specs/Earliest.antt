-- The earliest timetable of a period, and why a period has none (chapters 2 and 3).
use Rattle.std.specs.Prelude.{ℕ, ◌*◌, ◌<◌, ◌≤◌, ◌≡◌, List, Option, Some, None, length, slice_index, ⊤}
use Rattle.teg_net.specs.declared.entries.PlaceId.{PlaceId}
use Rattle.teg_net.specs.Nets.{NetLists}
use Rattle.teg_net.specs.Circuits.{IsCircuit, BeginsLowest, time_of, tokens_of}
use Rattle.teg_net.specs.GreatestRatios.{IsGreatestRatio, IsAnyPlace, HasNoCircuit}
use Rattle.workable_laws.specs.WorkablePeriods.{AreWorkableFirsts}
use Rattle.timetable_calls.specs.declared.longest.Busiest.{Busiest}
use Rattle.timetable_calls.specs.declared.refusal.PeriodRefused.{PeriodRefused}
use Rattle.timetable_calls.specs.declared.refusal.PeriodRefused.TheVariants.{TooShort, OutOfMemory}

-- dates of first firings that leave each place its time at the period, and no such dates come before them
pub record AreLeastFirsts (net : NetLists) (period : ℕ) (f : ℕ → ℕ) : Type 0 where
  pub workable : AreWorkableFirsts net period f
  pub least : (g : ℕ → ℕ) → AreWorkableFirsts net period g → (t : ℕ) → t < length net.transitions → f t ≤ g t

-- one date for each transition, the least of its first firing
pub record AreEarliest (net : NetLists) (period : ℕ) (firsts : List ℕ) : Type 0 where
  pub one_each : length firsts ≡ length net.transitions
  pub least : AreLeastFirsts net period (slice_index firsts)

-- a circuit that takes longer than the period gives it for its tokens, and so no timetable
pub record IsTooShort (net : NetLists) (period : ℕ) (ps : List PlaceId) : Type 0 where
  pub circuit : IsCircuit net ps
  pub lowest : BeginsLowest net ps
  pub longer : period * tokens_of net ps < time_of net ps
  pub none : (f : ℕ → ℕ) → AreWorkableFirsts net period f → ⊥

-- why a period is refused
abbrev pub IsPeriodRefused : NetLists → ℕ → PeriodRefused → Type 0
IsPeriodRefused net period (TooShort circuit) = IsTooShort net period circuit.places.items
IsPeriodRefused net period OutOfMemory = ⊤

-- a circuit that has the greatest ratio of the net
pub record IsBusiestOf (net : NetLists) (b : Busiest) : Type 0 where
  pub greatest : IsGreatestRatio net IsAnyPlace b.ratio
  pub circuit : IsCircuit net b.circuit.places.items
  pub lowest : BeginsLowest net b.circuit.places.items
  pub token : 1 ≤ tokens_of net b.circuit.places.items
  pub attains : time_of net b.circuit.places.items * b.ratio.tokens ≡ b.ratio.time * tokens_of net b.circuit.places.items

-- there is one, or the net has no circuit
abbrev pub IsBusiest : NetLists → Option Busiest → Type 0
IsBusiest net None = HasNoCircuit net IsAnyPlace
IsBusiest net (Some b) = IsBusiestOf net b
