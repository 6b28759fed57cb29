-- The star of the matrix of a net has the transfer series: what a unit impulse at one transition comes to at another (chapters 5 and 6).
use Rattle.std.specs.Prelude.{ℕ, ◌-◌, ◌<◌, ◌≤◌, length}
use Rattle.dioid_matrix.specs.MatrixStars.{star_of}
use Rattle.series_ops.specs.dioid.declared.dates.Date.{Date}
use Rattle.series_ops.specs.series_laws.SeriesForms.{value_at}
use Rattle.series_ops.specs.declared.gains.Gain.{Gain}
use Rattle.teg_net.specs.Nets.{NetLists, HasEndsInRange}
use Rattle.teg_net.specs.Circuits.{IsLive}
use Rattle.teg_settle.specs.teg_model.Datings.{IsLeastUnder}
use Rattle.teg_settle.specs.periodic_laws.Equations.{gains, gain_stars}
use Rattle.teg_settle.specs.walk_times.Transfers.{IsGreatestWalkTime}
use Rattle.io_laws.specs.InputOutput.{no_releases, IsOutput}
use Rattle.net_matrices.specs.NetEntries.{AreEntriesOfNet}

-- the entry of the star, by firing number
abbrev pub star_date : NetLists → (ℕ → ℕ → Gain) → ℕ → ℕ → ℕ → Date
star_date net entries i t k = value_at (star_of gains gain_stars (length net.transitions) entries t i).series (k - 1)

-- of a live net the entry of the star in row t and column i has the greatest times of walks from the first firing of i to the firings of t
abbrev pub TransfersAreStars : Type 0
TransfersAreStars = (net : NetLists) → HasEndsInRange net → IsLive net → (entries : ℕ → ℕ → Gain) → AreEntriesOfNet net entries
    → (i t k : ℕ) → i < length net.transitions → t < length net.transitions → 1 ≤ k → IsGreatestWalkTime net i t k (star_date net entries i t k)

-- so each least date is that without releases, or the response by an entry of the star to a release
abbrev pub DatesAreOutputsOfStars : Type 0
DatesAreOutputsOfStars = (net : NetLists) → HasEndsInRange net → IsLive net → (entries : ℕ → ℕ → Gain) → AreEntriesOfNet net entries
    → (x u y : ℕ → ℕ → Date) → IsLeastUnder net no_releases x → IsLeastUnder net u y
    → (t k : ℕ) → t < length net.transitions → 1 ≤ k → IsOutput net x u (star_date net entries) t k (y t k)
