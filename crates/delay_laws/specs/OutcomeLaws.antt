-- What becomes of the delays that are left (chapters 2 and 3).
use Rattle.std.specs.Prelude.{ℕ, ◌≤◌, ◌<◌, ◌≡◌, ◌⊎◌, List, All, length}
use Rattle.teg_net.specs.declared.entries.PlaceId.{PlaceId}
use Rattle.teg_net.specs.Nets.{NetLists, HasEndsInRange}
use Rattle.teg_net.specs.Circuits.{from_of, IsCircuit, IsLive, BeginsLowest}
use Rattle.teg_net.specs.Parts.{to_of}
use Rattle.delay_laws.specs.declared.table.Timetable.{Timetable}
use Rattle.delay_laws.specs.PlannedTimetables.{IsWorkable}
use Rattle.delay_laws.specs.DelayOutcomes.{IsRecovered, KeepsDelays, HasNoSpare, HasDelayPast, IsGreatestPast}
use Rattle.delay_laws.specs.SettlingLaws.{AreSettledDelays}

-- where no delay is left in the period past `after`, none is left later: the last number up to there with a delay, 0 where there
-- is none, is the least after which no delay is left
abbrev pub DelaysDieOut : Type 0
DelaysDieOut = (net : NetLists) (period : ℕ) (t : Timetable) (delay : ℕ → ℕ → ℕ) (after again : ℕ) → AreSettledDelays net period t delay after again
    → IsGreatestPast net delay after again 0
    → (last : ℕ) → ((i k : ℕ) → i < length net.transitions → last < k → k ≤ after → delay i k ≡ 0)
    → (last ≡ 0) ⊎ ((i : ℕ) × (i < length net.transitions) × (1 ≤ delay i last))
    → IsRecovered net delay last

-- a place leads to the transition from one that has the same delay, and the plan leaves it no spare time
pub record IsPassedOn (net : NetLists) (period : ℕ) (t : Timetable) (delay : ℕ → ℕ → ℕ) (after again most i : ℕ) (p : PlaceId) : Type 0 where
  pub place : p.index < length net.places
  pub to : to_of net p ≡ i
  pub no_spare : HasNoSpare net period t p
  pub from : HasDelayPast delay after again most (from_of net p)

-- the greatest delay of the period past `after`, where it is above 0, is passed on to each transition that has it
abbrev pub GreatestDelaysArePassedOn : Type 0
GreatestDelaysArePassedOn = (net : NetLists) → HasEndsInRange net → IsLive net → (period : ℕ) → 1 ≤ period → (t : Timetable) → IsWorkable net period t
    → (delay : ℕ → ℕ → ℕ) (after again : ℕ) → AreSettledDelays net period t delay after again
    → (most : ℕ) → 1 ≤ most → IsGreatestPast net delay after again most
    → (i : ℕ) → i < length net.transitions → HasDelayPast delay after again most i
    → (p : PlaceId) × IsPassedOn net period t delay after again most i p

-- a circuit of places without spare time, each of which leaves a transition with the same delay, keeps it
abbrev pub CircuitsKeepDelays : Type 0
CircuitsKeepDelays = (net : NetLists) (period : ℕ) (t : Timetable) → HasEndsInRange net
    → (delay : ℕ → ℕ → ℕ) (after again : ℕ) → AreSettledDelays net period t delay after again → (most : ℕ) → 1 ≤ most
    → (circuit : List PlaceId) → IsCircuit net circuit → BeginsLowest net circuit
    → All (λ p. HasNoSpare net period t p) circuit → All (λ p. HasDelayPast delay after again most (from_of net p)) circuit
    → KeepsDelays net period delay circuit

-- where the plan leaves time for each place of a live net, its delays die out or are kept
abbrev pub DelaysDieOutOrAreKept : Type 0
DelaysDieOutOrAreKept = (net : NetLists) → HasEndsInRange net → IsLive net → (period : ℕ) → 1 ≤ period → (t : Timetable) → IsWorkable net period t
    → (delay : ℕ → ℕ → ℕ) (after again : ℕ) → AreSettledDelays net period t delay after again
    → ((last : ℕ) × IsRecovered net delay last) ⊎ ((circuit : List PlaceId) × KeepsDelays net period delay circuit)

-- no delays both die out and are kept
abbrev pub NoDelaysDieOutAndAreKept : Type 0
NoDelaysDieOutAndAreKept = (net : NetLists) → HasEndsInRange net → (period : ℕ) (delay : ℕ → ℕ → ℕ) (last : ℕ) (circuit : List PlaceId)
    → IsRecovered net delay last → KeepsDelays net period delay circuit → ⊥
