-- Working definitions of periods that are struck off.
use Rattle.std.specs.Prelude.{ℕ, Bool, false, ◌<◌, List, IsTrue, length, slice_index_or}
use Rattle.teg_net.specs.Nets.{NetLists}
use Rattle.teg_settle.specs.declared.releases.Releases.{Releases}
use Rattle.teg_settle.specs.ComparedRows.{IsRefuted}

-- each period that is struck off is refuted
abbrev pub AreStruck : NetLists → Releases → ℕ → ℕ → List Bool → Type 0
AreStruck net r most count struck = (period : ℕ) → period < length struck → IsTrue (slice_index_or struck period false) → IsRefuted net r most count period
