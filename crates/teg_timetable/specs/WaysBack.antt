-- Working definitions of the way back along which the greatest delay is passed on.
use Rattle.std.specs.Prelude.{ℕ, ◌+◌, ◌<◌, ◌≤◌, ◌≡◌, ◌≢◌, List, Option, Some, None, length, All, slice_index, slice_index_or}
use Rattle.delay_laws.specs.declared.table.Timetable.{Timetable}
use Rattle.delay_laws.specs.DelayOutcomes.{HasDelayPast, HasNoSpare}
use Rattle.teg_net.specs.declared.entries.PlaceId.{PlaceId}
use Rattle.teg_net.specs.Circuits.{from_of, IsCircuit}
use Rattle.teg_net.specs.Nets.{NetLists}
use Rattle.teg_net.specs.Parts.{to_of}
use Rattle.release_nets.specs.PlannedNets.{IsPlannedNet}
use Rattle.release_nets.specs.ReleaseNetsBuilt.{AreBuilt}
use Rattle.teg_timetable.specs.Spreads.{LeftDelays, delay_left}

-- the greatest delay left of transition i in the period past the number
pub record IsTop (s : LeftDelays) (i top : ℕ) : Type 0 where
  pub greatest : (k : ℕ) → s.form.after < k → k ≤ s.form.after + s.form.period → delay_left s i k ≤ top
  pub attained : HasDelayPast (delay_left s) s.form.after s.form.period top i

-- a net with a timetable, the greatest delay left of each of its transitions, and a transition that has the greatest of them
pub record TopDelays : Type 0 where
  pub net : NetLists
  pub period : ℕ
  pub table : Timetable
  pub tops : List ℕ
  pub start : ℕ

-- these
abbrev pub top_delays : NetLists → ℕ → Timetable → List ℕ → ℕ → TopDelays
top_delays net period t tops start = record { net = net; period = period; table = t; tops = tops; start = start }

-- the timetable is one that the net can keep, and there is a delay for each transition
pub record AreTopDelays (s : TopDelays) : Type 0 where
  pub planned : IsPlannedNet s.net s.period s.table
  pub count : length s.tops ≡ length s.net.transitions
  pub start_in : s.start < length s.net.transitions

-- that greatest delay
abbrev pub greatest_top : TopDelays → ℕ
greatest_top s = slice_index s.tops s.start

-- they are the greatest of these delays, and none of them is above the greatest
pub record AreTopsOf (d : LeftDelays) (s : TopDelays) : Type 0 where
  pub top : AreTopDelays s
  pub built : AreBuilt (IsTop d) (length s.net.transitions) s.tops
  pub high : All (λ top. top ≤ greatest_top s) s.tops

-- the place has no spare time, and leaves a transition with that delay
pub record IsGood (s : TopDelays) (p : PlaceId) : Type 0 where
  pub no_spare : HasNoSpare s.net s.period s.table p
  pub from : slice_index s.tops (from_of s.net p) ≡ greatest_top s

-- each place of the list does
abbrev pub AreGood : TopDelays → List PlaceId → Type 0
AreGood s ps = All (IsGood s) ps

-- a place by which delays are passed on: it has no spare time, and both its ends have that delay
pub record FeedsAt (s : TopDelays) (p : PlaceId) : Type 0 where
  pub in_range : p.index < length s.net.places
  pub good : IsGood s p
  pub to : slice_index s.tops (to_of s.net p) ≡ greatest_top s

-- a place by which delays are passed on to transition i
pub record IsFeeder (s : TopDelays) (i : ℕ) (p : PlaceId) : Type 0 where
  pub feeds : FeedsAt s p
  pub ends : to_of s.net p ≡ i

-- for each transition one of the places up to a number that so lead to it, where there is one
pub record AreFeeders (s : TopDelays) (upto : ℕ) (feeders : List (Option PlaceId)) : Type 0 where
  pub count : length feeders ≡ length s.net.transitions
  pub sound : (i : ℕ) (p : PlaceId) → slice_index_or feeders i None ≡ Some p → IsFeeder s i p
  pub complete : (i : ℕ) (p : PlaceId) → p.index < upto → IsFeeder s i p → slice_index_or feeders i None ≢ None

-- there is a feeder of each transition with that delay, so feeders lead back without end
pub record FeedersGoBack (s : TopDelays) (feeders : List (Option PlaceId)) : Type 0 where
  pub count : length feeders ≡ length s.net.transitions
  pub some : (i : ℕ) → i < length s.net.transitions → slice_index s.tops i ≡ greatest_top s → slice_index_or feeders i None ≢ None
  pub sound : (i : ℕ) (p : PlaceId) → slice_index_or feeders i None ≡ Some p → IsFeeder s i p

-- a circuit of such places
pub record IsFedCircuit (s : TopDelays) (ps : List PlaceId) : Type 0 where
  pub circuit : IsCircuit s.net ps
  pub good : AreGood s ps
