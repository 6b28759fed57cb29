-- The net by which a delayed timetable is settled: each departure also waits for an input of its own (chapter 2).
use Rattle.std.specs.Prelude.{ℕ, ◌+◌, ◌-◌, ◌≤◌, ◌<◌, ◌≡◌, [], Some, length, slice_index, slice_index_or}
use Rattle.teg_net.specs.declared.entries.InputList.{InputList}
use Rattle.teg_net.specs.declared.entries.Place.{Place}
use Rattle.teg_net.specs.Nets.{NetLists, IsInput}
use Rattle.teg_net.specs.Circuits.{place_at}
use Rattle.delay_laws.specs.declared.table.Timetable.{Timetable}
use Rattle.delay_laws.specs.PlannedTimetables.{IsPastDelays}
use Rattle.delay_laws.specs.Delays.{IsReleaseAt}

-- p and q are the same place but for their names
pub record IsSamePlace (p q : Place) : Type 0 where
  pub from : p.from.index ≡ q.from.index
  pub to : p.to.index ≡ q.to.index
  pub hold : p.hold ≡ q.hold
  pub tokens : p.tokens ≡ q.tokens
  pub ready : p.ready ≡ q.ready

-- the place by which transition i waits for its input, which is transition n + i, with no hold and no token
abbrev pub release_place : ℕ → ℕ → Place
release_place n i = record { name = []; from = record { index = n + i }; to = record { index = i }; hold = 0; tokens = 0; ready = [] }

-- a list for transition n + i: the releases of transition i up to a number past its delays, from where it goes on by the period
pub record IsReleaseList (period : ℕ) (t : Timetable) (n i : ℕ) (l : InputList) : Type 0 where
  pub of : l.transition.index ≡ n + i
  pub some : 1 ≤ length l.dates
  pub past : IsPastDelays period t i (length l.dates)
  pub dates : (k : ℕ) → 1 ≤ k → k ≤ length l.dates → IsReleaseAt period t i k (slice_index l.dates (k - 1))
  pub again : l.again ≡ Some (record { every = 1; gap = period })

-- to each transition of the net, none of them an input now, an input of its own is added, whose list has the releases of its
-- departures; the places are those of the net and one from each input to its transition
pub record IsReleaseNet (net : NetLists) (period : ℕ) (t : Timetable) (derived : NetLists) : Type 0 where
  pub twice : length derived.transitions ≡ length net.transitions + length net.transitions
  pub no_input : (i : ℕ) → i < length net.transitions → IsInput derived i → ⊥
  pub are_inputs : (i : ℕ) → i < length net.transitions → IsInput derived (length net.transitions + i)
  pub place_count : length derived.places ≡ length net.places + length net.transitions
  pub own : (k : ℕ) → k < length net.places → IsSamePlace (place_at derived (record { index = k })) (place_at net (record { index = k }))
  pub added : (i : ℕ) → i < length net.transitions
      → IsSamePlace (place_at derived (record { index = length net.places + i })) (release_place (length net.transitions) i)
  pub list_count : length derived.inputs ≡ length net.transitions
  pub lists : (i : ℕ) (d : InputList) → i < length net.transitions → IsReleaseList period t (length net.transitions) i (slice_index_or derived.inputs i d)
