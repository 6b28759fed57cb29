-- How what is told of a run stands to the least dating.
use Rattle.std.specs.Prelude.{ℕ, pos, ◌≤◌, ◌≡◌, List, None, length, take}
use Rattle.run_laws.specs.dioid.declared.dates.Date.{Date}
use Rattle.run_laws.specs.dioid.declared.dates.Date.TheVariants.{At}
use Rattle.run_laws.specs.dioid.Dates.{IsAtMostDate}
use Rattle.teg_net.specs.Nets.{NetLists}
use Rattle.teg_net.specs.Circuits.{IsLive}
use Rattle.run_laws.specs.teg_model.Datings.{IsLeastDating}
use Rattle.teg_due.specs.declared.rows.LogRow.{LogRow}
use Rattle.teg_outside.specs.declared.monitor.Firing.{Firing}
use Rattle.run_laws.specs.declared.fired.Fired.{Fired}
use Rattle.run_laws.specs.EarliestRuns.{IsEarliestRun}
use Rattle.run_laws.specs.LegalRuns.{IsDatedBy}
use Rattle.run_laws.specs.Runs.{IsLegalRun}
use Rattle.teg_replay.specs.declared.replayed.Replayed.{Replayed}
use Rattle.teg_replay.specs.Replays.{run_of}

-- the firing told is no earlier than its date in x; and where all before it came at their dates in x, its earliest date is its date in x
pub record StandsTo (net : NetLists) (x : ℕ → ℕ → Date) (run : List Fired) (firing : Firing) : Type 0 where
  pub not_early : IsAtMostDate (x firing.transition firing.number) (At (pos firing.date))
  pub earliest : IsDatedBy net x run → x firing.transition firing.number ≡ At (pos firing.earliest)

-- the firing stands so to the least dating of a live net: no earlier than its date there, and where all before it came at theirs,
-- with that as its earliest date
abbrev pub StandsToLeastDates : NetLists → List Fired → Firing → Type 0
StandsToLeastDates net run firing = IsLive net → (x : ℕ → ℕ → Date) → IsLeastDating net x → StandsTo net x run firing

-- no row of a legal run is refused
abbrev pub AcceptsLegalRuns : NetLists → List LogRow → Replayed → Type 0
AcceptsLegalRuns net rows replayed = IsLegalRun net (run_of rows) → replayed.refused ≡ None

-- no row is refused where the rows are a first part of an earliest run of the least dating
abbrev pub AcceptsEarliestRuns : NetLists → List LogRow → Replayed → Type 0
AcceptsEarliestRuns net rows replayed =
    (x : ℕ → ℕ → Date) (most n : ℕ) (run : List Fired) → IsLeastDating net x → IsEarliestRun net x most run → n ≤ length run → run_of rows ≡ take n run → replayed.refused ≡ None
