-- Timetables whose period is a fraction: dates in parts of the unit, and whole dates of them (chapters 2 and 3).
use Rattle.std.specs.Prelude.{ℕ, ◌+◌, ◌-◌, ◌*◌, ◌/◌, ◌<◌, ◌≤◌, ◌≡◌, List, length, slice_index, All, ⊤}
use Rattle.teg_net.specs.declared.entries.PlaceId.{PlaceId}
use Rattle.teg_net.specs.declared.entries.Place.{Place}
use Rattle.teg_net.specs.Nets.{NetLists}
use Rattle.teg_net.specs.ReadyDates.{ready_date}
use Rattle.teg_net.specs.Circuits.{IsCircuit, BeginsLowest, time_of, tokens_of}
use Rattle.timetable_calls.specs.declared.refusal.PeriodRefused.{PeriodRefused}
use Rattle.timetable_calls.specs.declared.refusal.PeriodRefused.TheVariants.{TooShort, OutOfMemory}

-- dates of the first firings, in parts of the unit of which so many make one, which go on by the period, in parts too, leave time for
-- the place and for its initial tokens
pub record LeavesTimeAt (scale period : ℕ) (f : ℕ → ℕ) (p : Place) : Type 0 where
  pub leaves_time : f p.from.index + scale * p.hold ≤ f p.to.index + period * p.tokens
  pub ready : (k : ℕ) → 1 ≤ k → k ≤ p.tokens → scale * ready_date p k ≤ f p.to.index + period * (k - 1)

-- they leave time for each place
abbrev pub AreFirstsAt : NetLists → ℕ → ℕ → (ℕ → ℕ) → Type 0
AreFirstsAt net scale period f = All (LeavesTimeAt scale period f) net.places

-- no circuit takes longer than the period, in parts of the unit, gives it for its tokens
abbrev pub LeavesCircuitsTimeAt : NetLists → ℕ → ℕ → Type 0
LeavesCircuitsTimeAt net scale period = (ps : List PlaceId) → IsCircuit net ps → scale * time_of net ps ≤ period * tokens_of net ps

-- dates of first firings, in parts of the unit, that leave time for each place, and no such dates come before them
pub record AreLeastFirstsAt (net : NetLists) (scale period : ℕ) (f : ℕ → ℕ) : Type 0 where
  pub workable : AreFirstsAt net scale period f
  pub least : (g : ℕ → ℕ) → AreFirstsAt net scale period g → (t : ℕ) → t < length net.transitions → f t ≤ g t

-- one date for each transition, the least of its first firing, in parts of the unit
pub record AreEarliestAt (net : NetLists) (scale period : ℕ) (firsts : List ℕ) : Type 0 where
  pub one_each : length firsts ≡ length net.transitions
  pub least : AreLeastFirstsAt net scale period (slice_index firsts)

-- a circuit that takes longer than the period gives it for its tokens, and so no timetable
pub record IsTooShortAt (net : NetLists) (scale period : ℕ) (ps : List PlaceId) : Type 0 where
  pub circuit : IsCircuit net ps
  pub lowest : BeginsLowest net ps
  pub longer : period * tokens_of net ps < scale * time_of net ps
  pub none : (f : ℕ → ℕ) → AreFirstsAt net scale period f → ⊥

-- why a period is refused
abbrev pub IsRefusedAt : NetLists → ℕ → ℕ → PeriodRefused → Type 0
IsRefusedAt net scale period (TooShort circuit) = IsTooShortAt net scale period circuit.places.items
IsRefusedAt net scale period OutOfMemory = ⊤

-- the whole date of a firing, rounded down, of a transition whose first one is at this date in parts
abbrev pub whole_date : ℕ → ℕ → ℕ → ℕ → ℕ
whole_date scale period first k = (first + period * (k - 1)) / scale

-- whole dates of firings leave the place its time, and wait for its initial tokens
pub record KeepsPlace (date : ℕ → ℕ → ℕ) (p : Place) : Type 0 where
  pub keeps_time : (k : ℕ) → 1 ≤ k → date p.from.index k + p.hold ≤ date p.to.index (k + p.tokens)
  pub ready : (k : ℕ) → 1 ≤ k → k ≤ p.tokens → ready_date p k ≤ date p.to.index k

-- rounded down, the dates of a timetable keep each place
abbrev pub WholeDatesKeepPlaces : Type 0
WholeDatesKeepPlaces = (net : NetLists) (scale period : ℕ) (f : ℕ → ℕ) → 1 ≤ scale → AreFirstsAt net scale period f
    → All (KeepsPlace (λ t k. whole_date scale period (f t) k)) net.places

-- and repeat: as many firings later as parts make the unit, by as many units as the period has parts
abbrev pub WholeDatesRepeat : Type 0
WholeDatesRepeat = (scale period first k : ℕ) → 1 ≤ scale → 1 ≤ k → whole_date scale period first (k + scale) ≡ whole_date scale period first k + period
