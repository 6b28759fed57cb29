-- Due dates, and the inputs that meet them (chapter 5). What is due is a function of the firing: by a list of rows, or
-- without end.
use Rattle.std.specs.Prelude.{ℕ, pos, ◌+◌, ◌<◌, ◌≤◌, ◌≡◌, length, Option, Some}
use Rattle.teg_model.specs.dioid.declared.dates.Date.{Date}
use Rattle.teg_model.specs.dioid.declared.dates.Date.TheVariants.{At}
use Rattle.teg_model.specs.dioid.Dates.{IsAtMostDate}
use Rattle.teg_model.specs.teg_net.Nets.{NetLists, IsInput}
use Rattle.teg_model.specs.Datings.{IsLeastUnder}

-- no firing comes after a date at which it is due
abbrev pub KeepsDues : NetLists → (ℕ → ℕ → Option ℕ) → (ℕ → ℕ → Date) → Type 0
KeepsDues net due x = (t k d : ℕ) → t < length net.transitions → 1 ≤ k → due t k ≡ Some d → IsAtMostDate (x t k) (At (pos d))

-- a date from 0 on, or never, for each firing of an input, and they never fall
pub record AreInputs (net : NetLists) (v : ℕ → ℕ → Date) : Type 0 where
  pub from_zero : (t k : ℕ) → IsInput net t → 1 ≤ k → IsAtMostDate (At (pos 0)) (v t k)
  pub never_fall : (t k : ℕ) → IsInput net t → 1 ≤ k → IsAtMostDate (v t k) (v t (k + 1))

-- the least dating with these inputs keeps the due dates
abbrev pub InputsMeet : NetLists → (ℕ → ℕ → Option ℕ) → (ℕ → ℕ → Date) → Type 0
InputsMeet net due v = (x : ℕ → ℕ → Date) × IsLeastUnder net v x × KeepsDues net due x

-- inputs that meet the due dates, each at least that of all inputs that meet them
pub record AreLatestInputs (net : NetLists) (due : ℕ → ℕ → Option ℕ) (v : ℕ → ℕ → Date) : Type 0 where
  pub inputs : AreInputs net v
  pub meet : InputsMeet net due v
  pub latest : (w : ℕ → ℕ → Date) → AreInputs net w → InputsMeet net due w → (t k : ℕ) → IsInput net t → 1 ≤ k → IsAtMostDate (w t k) (v t k)

-- all inputs at 0
abbrev pub inputs_at_zero : ℕ → ℕ → Date
inputs_at_zero t k = At (pos 0)
