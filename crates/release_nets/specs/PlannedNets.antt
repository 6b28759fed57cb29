-- A net whose delays are followed, with its timetable, and why there is none (chapters 2 and 3).
use Rattle.std.specs.Prelude.{ℕ, ◌+◌, ◌≤◌, ◌<◌, ◌≡◌, ◌⊎◌, All, length, take}
use Rattle.delay_laws.specs.declared.table.Timetable.{Timetable}
use Rattle.delay_laws.specs.PlannedTimetables.{IsTableOf, IsWorkable, IsWorkableAt}
use Rattle.teg_net.specs.Circuits.{IsLive, place_at}
use Rattle.teg_net.specs.Nets.{NetLists, HasEndsInRange}
use Rattle.release_nets.specs.declared.planned.Unplanned.{Unplanned}
use Rattle.release_nets.specs.declared.planned.Unplanned.TheVariants.{TooLarge, Unworkable}

-- the greatest period of a timetable
abbrev pub greatest_period : ℕ
greatest_period = 1000000

-- transitions of a net whose delays are followed, at most
abbrev pub most_timetable_transitions : ℕ
most_timetable_transitions = 200

-- its transitions and places together, at most
abbrev pub most_timetable_entries : ℕ
most_timetable_entries = 4000

-- there are more than 200 transitions, or more than 4,000 places and transitions together
abbrev pub IsNetTooLarge : NetLists → Type 0
IsNetTooLarge net = (most_timetable_transitions < length net.transitions) ⊎ (most_timetable_entries < length net.transitions + length net.places)

-- a live net that is not too large, a period within its limits, and a timetable of the net that leaves each place its time
pub record IsPlannedNet (net : NetLists) (period : ℕ) (t : Timetable) : Type 0 where
  pub some_transition : 1 ≤ length net.transitions
  pub ends : HasEndsInRange net
  pub live : IsLive net
  pub some : 1 ≤ period
  pub period_in : period ≤ greatest_period
  pub table : IsTableOf net t
  pub few : length net.transitions ≤ most_timetable_transitions
  pub fits : length net.transitions + length net.places ≤ most_timetable_entries
  pub workable : IsWorkable net period t

-- the place is the lowest numbered one to which the plan does not leave its time
pub record IsFirstUnworkable (net : NetLists) (period : ℕ) (t : Timetable) (place : ℕ) : Type 0 where
  pub in_range : place < length net.places
  pub before : All (IsWorkableAt period t) (take place net.places)
  pub fails : IsWorkableAt period t (place_at net (record { index = place })) → ⊥

-- the first cause why the delays of a timetable are not followed
abbrev pub IsUnplanned : NetLists → ℕ → Timetable → Unplanned → Type 0
IsUnplanned net period t (TooLarge transitions places) = (transitions ≡ length net.transitions) × (places ≡ length net.places) × IsNetTooLarge net
IsUnplanned net period t (Unworkable place) = (IsNetTooLarge net → ⊥) × IsFirstUnworkable net period t place.index
