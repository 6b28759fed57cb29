-- What is right to tell of the delays of a timetable, and the cause of each refusal (chapters 2 and 3).
use Rattle.std.specs.Prelude.{ℕ, ◌<◌, ◌≤◌, ◌≡◌, length, Option, Some, None, ⊤}
use Rattle.delay_laws.specs.declared.table.Timetable.{Timetable}
use Rattle.delay_laws.specs.PlannedTimetables.{IsWorkable, greatest_delay}
use Rattle.delay_laws.specs.Delays.{AreDelaysLeft, IsFormOfDelays, DelaysSettlePast}
use Rattle.delay_laws.specs.DelayOutcomes.{IsRecovered, KeepsDelays}
use Rattle.teg_settle.specs.settled_laws.SettledForms.{NetSettlesPast, settled_length}
use Rattle.teg_net.specs.Circuits.{AreInRange}
use Rattle.teg_net.specs.Nets.{NetLists}
use Rattle.teg_timetable.specs.declared.refusals.DelayRefusal.{DelayRefusal}
use Rattle.teg_timetable.specs.declared.refusals.DelayRefusal.TheVariants.{TooLarge, Unworkable, TooLong, OutOfMemory}
use Rattle.release_nets.specs.PlannedNets.{IsFirstUnworkable, IsNetTooLarge}
use Rattle.teg_timetable.specs.Spreads.{Spread, OutcomeTold, RecoveredTold, KeptTold, delay_by_spread}

-- a length is within the limit, where there is one
abbrev pub IsLengthWithinLimit : Option ℕ → ℕ → Type 0
IsLengthWithinLimit None long = ⊤
IsLengthWithinLimit (Some limit) long = long ≤ limit

-- what becomes of the delays is told
abbrev pub IsRightOutcome : NetLists → ℕ → (ℕ → ℕ → ℕ) → OutcomeTold → Type 0
IsRightOutcome net period delay (RecoveredTold after) = IsRecovered net delay after
IsRightOutcome net period delay (KeptTold circuit) = KeepsDelays net period delay circuit

-- what is right to tell: the net is not too large and the plan leaves each place its time; number and period are those of the
-- shortest settled form of the delayed dating and the releases together, which is within the limit; the delays are those left; and
-- what is told becomes of them
pub record IsSpread (net : NetLists) (period : ℕ) (t : Timetable) (limit : Option ℕ) (s : Spread) : Type 0 where
  pub not_over : IsNetTooLarge net → ⊥
  pub workable : IsWorkable net period t
  pub width : length s.firsts ≡ length net.transitions
  pub form : IsFormOfDelays net period t s.form
  pub within : IsLengthWithinLimit limit (settled_length s.form)
  pub delays : AreDelaysLeft net period t (delay_by_spread s)
  pub small : (i k : ℕ) → i < length net.transitions → 1 ≤ k → delay_by_spread s i k ≤ greatest_delay
  pub outcome : IsRightOutcome net period (delay_by_spread s) s.outcome

-- the cause of each refusal, the first in their order; want of memory may come in any call
abbrev pub IsDelayRefusal : NetLists → ℕ → Timetable → Option ℕ → DelayRefusal → Type 0
IsDelayRefusal net period t limit (TooLarge transitions places) =
    (transitions ≡ length net.transitions) × (places ≡ length net.places) × IsNetTooLarge net
IsDelayRefusal net period t limit (Unworkable place) = (IsNetTooLarge net → ⊥) × IsFirstUnworkable net period t place.index
IsDelayRefusal net period t limit (TooLong l) =
    (IsNetTooLarge net → ⊥) × IsWorkable net period t × (limit ≡ Some l) × DelaysSettlePast net period t l
IsDelayRefusal net period t limit OutOfMemory = ⊤

-- the circuit that is told, where one is, is in the net
abbrev pub IsOutcomeIn : NetLists → OutcomeTold → Type 0
IsOutcomeIn net (RecoveredTold after) = ⊤
IsOutcomeIn net (KeptTold circuit) = AreInRange net circuit

-- the place that is told, where one is, is in the net
abbrev pub IsDelayRefusalIn : NetLists → DelayRefusal → Type 0
IsDelayRefusalIn net (TooLarge transitions places) = ⊤
IsDelayRefusalIn net (Unworkable place) = place.index < length net.places
IsDelayRefusalIn net (TooLong l) = ⊤
IsDelayRefusalIn net OutOfMemory = ⊤

-- a search for a settled form of a net gives up for a limit that is given and that each form exceeds, or for want of memory
abbrev pub IsSettlingRefusal : NetLists → Option ℕ → DelayRefusal → Type 0
IsSettlingRefusal net limit (TooLarge transitions places) = ⊥
IsSettlingRefusal net limit (Unworkable place) = ⊥
IsSettlingRefusal net limit (TooLong l) = (limit ≡ Some l) × NetSettlesPast net l
IsSettlingRefusal net limit OutOfMemory = ⊤
