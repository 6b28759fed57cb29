-- Runs of the least dating of a net, and the rows that go on from them.
use Rattle.std.specs.Prelude.{ℕ, ◌+◌, ◌<◌, ◌≤◌, ◌≡◌, List, All, Any, length, nat_le, if◌then◌else◌}
use Rattle.dioid.specs.declared.dates.Date.{Date}
use Rattle.dioid.specs.declared.dates.Date.TheVariants.{Early}
use Rattle.teg_net.specs.Limits.{greatest_firing_number}
use Rattle.teg_net.specs.Nets.{NetLists}
use Rattle.teg_net.specs.declared.entries.Place.{Place}
use Rattle.teg_model.specs.DateBounds.{IsDateWithin, greatest_least_date}
use Rattle.teg_model.specs.Datings.{IsLeastDating, at_input, available_at, listed_releases, system_with}
use Rattle.teg_model.specs.Systems.{System}
use Rattle.date_rows.specs.DateTables.{TableDates, date_at}
use Rattle.jump_laws.specs.Runs.{Run, AreRunsUpTo, IsInRun, IsRunOf, date_by_runs}

-- runs of the least dating of the net, of which some has each number up to `last`
abbrev pub AreLeastRuns : NetLists → ℕ → List Run → Type 0
AreLeastRuns net last runs = (x : ℕ → ℕ → Date) → IsLeastDating net x → AreRunsUpTo (length net.transitions) x last runs

-- runs of x of which some has each number up to `last` behind which there are fewer than `most` of these
pub record AreRunsLately (count : ℕ) (x : ℕ → ℕ → Date) (most last : ℕ) (rs : List Run) : Type 0 where
  pub runs : All (IsRunOf count x) rs
  pub cover : (k : ℕ) → 1 ≤ k → last < k + most → k ≤ last → Any (λ r. IsInRun r k) rs

-- such runs of the least dating of the net
abbrev pub AreLateRuns : NetLists → ℕ → ℕ → List Run → Type 0
AreLateRuns net most last runs = (x : ℕ → ℕ → Date) → IsLeastDating net x → AreRunsLately (length net.transitions) x most last runs

-- the rows have the dates of the least dating from the number past `after` on
pub record AreRowsPast (net : NetLists) (after : ℕ) (rows : TableDates) : Type 0 where
  pub width : rows.width ≡ length net.transitions
  pub same : (x : ℕ → ℕ → Date) → IsLeastDating net x → (t k : ℕ) → t < length net.transitions → 1 ≤ k → k ≤ rows.count → date_at rows t k ≡ x t (after + k)
  pub within : (t k : ℕ) → t < length net.transitions → 1 ≤ k → k ≤ rows.count → IsDateWithin greatest_least_date (date_at rows t k)

-- the date from which the token is available that the place has for the k-th firing past `after`, by the runs up to there
abbrev pub token_past : List Run → ℕ → Place → ℕ → Date
token_past runs after p k = available_at (date_by_runs runs) p (after + k)

-- the release of the k-th firing past `after`, as far as numbers go
abbrev pub release_past : ℕ → NetLists → ℕ → ℕ → Date
release_past after net t k = if nat_le (after + k) greatest_firing_number then at_input net t (listed_releases net t (after + k)) Early else Early

-- the system of the firings past `after`
abbrev pub system_past : NetLists → List Run → ℕ → System
system_past net runs after = system_with net (token_past runs after) (release_past after net)

-- the net has a least dating, and this is the date of firing k of transition t by it
abbrev pub IsDateOfLeast : NetLists → ℕ → ℕ → Date → Type 0
IsDateOfLeast net t k date = (x : ℕ → ℕ → Date) × IsLeastDating net x × (date ≡ x t k)
