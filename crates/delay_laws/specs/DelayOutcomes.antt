-- What becomes of delays: they die out, or a circuit without spare time keeps them (chapters 2 and 3).
use Rattle.std.specs.Prelude.{ℕ, ◌+◌, ◌*◌, ◌≤◌, ◌<◌, ◌≡◌, ◌⊎◌, List, All, length}
use Rattle.teg_net.specs.declared.entries.PlaceId.{PlaceId}
use Rattle.teg_net.specs.Nets.{NetLists}
use Rattle.teg_net.specs.Circuits.{place_at, from_of, IsCircuit, BeginsLowest, time_of, tokens_of}
use Rattle.delay_laws.specs.declared.table.Timetable.{Timetable}
use Rattle.delay_laws.specs.PlannedTimetables.{first_planned}

-- no delay is left after this number, and no smaller number will do
pub record IsRecovered (net : NetLists) (delay : ℕ → ℕ → ℕ) (after : ℕ) : Type 0 where
  pub none_after : (i k : ℕ) → i < length net.transitions → after < k → delay i k ≡ 0
  pub last : (after ≡ 0) ⊎ ((i : ℕ) × (i < length net.transitions) × (1 ≤ delay i after))

-- a delay is left at numbers past every bound
abbrev pub IsLateForever : (ℕ → ℕ) → Type 0
IsLateForever delays = (bound : ℕ) → (k : ℕ) × (bound < k) × (1 ≤ delays k)

-- a circuit, told from its lowest numbered transition on, that takes just the time that the plan gives it, and each of whose
-- transitions is late at numbers past every bound
pub record KeepsDelays (net : NetLists) (period : ℕ) (delay : ℕ → ℕ → ℕ) (circuit : List PlaceId) : Type 0 where
  pub is_circuit : IsCircuit net circuit
  pub lowest_first : BeginsLowest net circuit
  pub no_spare : time_of net circuit ≡ period * tokens_of net circuit
  pub late : All (λ p. IsLateForever (delay (from_of net p))) circuit

-- the plan leaves the place just the time that it takes
pub record HasNoSpare (net : NetLists) (period : ℕ) (t : Timetable) (p : PlaceId) : Type 0 where
  pub same : first_planned t (from_of net p) + (place_at net p).hold ≡ first_planned t (place_at net p).to.index + period * (place_at net p).tokens

-- at some number in the period past `after` the transition has this delay
pub record HasDelayPast (delay : ℕ → ℕ → ℕ) (after period most i : ℕ) : Type 0 where
  pub number : ℕ
  pub past : after < number
  pub within : number ≤ after + period
  pub is : delay i number ≡ most

-- no transition has a greater delay in the period past `after`
abbrev pub IsGreatestPast : NetLists → (ℕ → ℕ → ℕ) → ℕ → ℕ → ℕ → Type 0
IsGreatestPast net delay after period most = (i k : ℕ) → i < length net.transitions → after < k → k ≤ after + period → delay i k ≤ most
