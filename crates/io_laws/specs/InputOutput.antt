-- The dates of a net from its releases: those without inputs, and the responses to the releases (chapters 2 and 5).
use Rattle.std.specs.Prelude.{ℕ, ◌+◌, ◌-◌, ◌<◌, ◌≤◌, ◌≡◌, ◌⊎◌, length}
use Rattle.walk_times.specs.dioid.declared.dates.Date.{Date}
use Rattle.walk_times.specs.dioid.declared.dates.Date.TheVariants.{Early}
use Rattle.walk_times.specs.dioid.Dates.{IsAtMostDate, date_product}
use Rattle.walk_times.specs.teg_net.Nets.{NetLists, HasEndsInRange, IsInput}
use Rattle.walk_times.specs.teg_net.Circuits.{IsLive}
use Rattle.walk_times.specs.teg_model.Datings.{IsLeastUnder}
use Rattle.walk_times.specs.settled_laws.SettledForms.{SettledForm, settled_date}
use Rattle.walk_times.specs.Transfers.{AreWalkTimes, IsTransferOf}

-- no input waits for a release
abbrev pub no_releases : ℕ → ℕ → Date
no_releases t k = Early

-- h i has the greatest times of walks from the first firing of input i
abbrev pub AreTransferTimes : NetLists → (ℕ → ℕ → ℕ → Date) → Type 0
AreTransferTimes net h = (i : ℕ) → IsInput net i → AreWalkTimes net i (h i)

-- the response of firing k of transition t to the release of firing j of input i: the release, and the transfer time over as
-- many numbers
abbrev pub response : (ℕ → ℕ → Date) → (ℕ → ℕ → ℕ → Date) → ℕ → ℕ → ℕ → ℕ → Date
response u h i j t k = date_product (u i j) (h i t (k - j + 1))

-- the date is the latest of that without inputs and the responses to the releases of all inputs up to number k
pub record IsOutput (net : NetLists) (x u : ℕ → ℕ → Date) (h : ℕ → ℕ → ℕ → Date) (t k : ℕ) (date : Date) : Type 0 where
  pub free : IsAtMostDate (x t k) date
  pub responses : (i j : ℕ) → IsInput net i → 1 ≤ j → j ≤ k → IsAtMostDate (response u h i j t k) date
  pub attained : (date ≡ x t k) ⊎ ((i j : ℕ) × IsInput net i × (1 ≤ j) × (j ≤ k) × (date ≡ response u h i j t k))

-- each least date of a live net is that of the net without releases, or a response, by the times of walks
abbrev pub DatesAreOutputs : Type 0
DatesAreOutputs = (net : NetLists) → HasEndsInRange net → IsLive net → (x u y : ℕ → ℕ → Date) (h : ℕ → ℕ → ℕ → Date)
    → IsLeastUnder net no_releases x → IsLeastUnder net u y → AreTransferTimes net h
    → (t k : ℕ) → t < length net.transitions → 1 ≤ k → IsOutput net x u h t k (y t k)

-- or by the transfers of the inputs, their shortest settled forms
abbrev pub DatesAreOutputsOfTransfers : Type 0
DatesAreOutputsOfTransfers = (net : NetLists) → HasEndsInRange net → IsLive net → (x u y : ℕ → ℕ → Date) (transfers : ℕ → SettledForm)
    → IsLeastUnder net no_releases x → IsLeastUnder net u y → ((i : ℕ) → IsInput net i → IsTransferOf net i (transfers i))
    → (t k : ℕ) → t < length net.transitions → 1 ≤ k → IsOutput net x u (λ i. settled_date (transfers i)) t k (y t k)
