-- How the delays of a timetable spread: what is told of it (chapters 2 and 3).
use Rattle.std.specs.Prelude.{ℕ, pos, ◌+◌, ◌-◌, ◌*◌, ◌<◌, ◌≤◌, ◌≡◌, List, length, slice_index}
use Rattle.dioid.specs.declared.dates.Date.TheVariants.{At}
use Rattle.delay_laws.specs.declared.table.Outcome.{Outcome}
use Rattle.delay_laws.specs.declared.table.Outcome.TheVariants.{Recovered, Kept}
use Rattle.delay_laws.specs.SettlingLaws.{natural_of_date}
use Rattle.delay_laws.specs.PlannedTimetables.{greatest_delay, greatest_departure}
use Rattle.teg_settle.specs.settled_laws.SettledForms.{SettledForm, settled_length, settled_date}
use Rattle.teg_net.specs.declared.entries.PlaceId.{PlaceId}
use Rattle.teg_net.specs.Limits.{greatest_firing_number, most_rows}
use Rattle.release_nets.specs.PlannedNets.{greatest_period, most_timetable_transitions}

-- what becomes of delays: none is left after a number, or a circuit keeps them
pub data OutcomeTold : Type 0 where
  RecoveredTold : (after : ℕ) → OutcomeTold
  KeptTold : (circuit : List PlaceId) → OutcomeTold

-- what becomes of delays, as it is told
abbrev pub outcome_told : Outcome → OutcomeTold
outcome_told (Recovered after) = RecoveredTold after
outcome_told (Kept circuit) = KeptTold circuit.places.items

-- the plan, by its first departures and its period; a settled form, of which the first rows are the delayed dates of the
-- transitions; and what becomes of the delays
pub record Spread : Type 0 where
  pub firsts : List ℕ
  pub every : ℕ
  pub form : SettledForm
  pub outcome : OutcomeTold

-- the plan and the form alone
pub record LeftDelays : Type 0 where
  pub firsts : List ℕ
  pub every : ℕ
  pub form : SettledForm

-- the plan and the form of how delays spread
abbrev pub left_in : Spread → LeftDelays
left_in s = record { firsts = s.firsts; every = s.every; form = s.form }

-- the planned date of departure k of transition i
abbrev pub planned_date : LeftDelays → ℕ → ℕ → ℕ
planned_date s i k = slice_index s.firsts i + s.every * (k - 1)

-- the delay that is left at departure k of transition i
abbrev pub delay_left : LeftDelays → ℕ → ℕ → ℕ
delay_left s i k = natural_of_date (settled_date s.form i k) - planned_date s i k

-- the delay that is left at departure k of transition i, by how delays spread
abbrev pub delay_by_spread : Spread → ℕ → ℕ → ℕ
delay_by_spread s i k = delay_left (left_in s) i k

-- the plan keeps its limits, and up to the greatest number each delayed date is the planned one and a delay within its limit
pub record AreLeftDelays (s : LeftDelays) : Type 0 where
  pub few : length s.firsts ≤ most_timetable_transitions
  pub rows : length s.firsts ≤ length s.form.rows
  pub firsts_in : (i : ℕ) → slice_index s.firsts i ≤ greatest_departure
  pub every_in : s.every ≤ greatest_period
  pub some : 1 ≤ s.form.period
  pub short : settled_length s.form ≤ most_rows
  pub dates : (i k : ℕ) → i < length s.firsts → 1 ≤ k → k ≤ greatest_firing_number → settled_date s.form i k ≡ At (pos (planned_date s i k + delay_left s i k))
  pub small : (i k : ℕ) → i < length s.firsts → 1 ≤ k → k ≤ greatest_firing_number → delay_left s i k ≤ greatest_delay
