-- One row of dates on the way to the latest of what each firing waits for.
use Rattle.std.specs.Prelude.{ℕ, ◌<◌, ◌≡◌, List, length, slice_index_or}
use Rattle.dioid.specs.declared.dates.Date.{Date}
use Rattle.dioid.specs.declared.dates.Date.TheVariants.{Early}
use Rattle.dioid.specs.Dates.{later_of}
use Rattle.teg_net.specs.Nets.{NetLists}
use Rattle.teg_model.specs.Datings.{available_at, implicit_place, at_input}
use Rattle.dating_certificates.specs.TightRows.{IsLatestWait}

-- the later of the firing before and the release
abbrev pub begun_date : NetLists → (ℕ → ℕ → Date) → (ℕ → ℕ → Date) → ℕ → ℕ → Date
begun_date net u x t k = later_of (available_at x (implicit_place t) k) (at_input net t (u t k) Early)

-- the row has for each transition the later of the firing before number k and the release
pub record HasBegun (net : NetLists) (u x : ℕ → ℕ → Date) (k : ℕ) (row : List Date) : Type 0 where
  pub full : length row ≡ length net.transitions
  pub begun : (t : ℕ) → t < length net.transitions → slice_index_or row t Early ≡ begun_date net u x t k

-- the row has for each transition the latest of what its firing k waits for
pub record AreLatestWaits (net : NetLists) (u x : ℕ → ℕ → Date) (k : ℕ) (row : List Date) : Type 0 where
  pub full : length row ≡ length net.transitions
  pub latest : (t : ℕ) → t < length net.transitions → IsLatestWait net u x t k (slice_index_or row t Early)
