-- Working definitions of the system of a net in which one input alone is released.
use Rattle.std.specs.Prelude.{ℕ, pos, ◌==◌, if◌then◌else◌}
use Rattle.dioid.specs.declared.dates.Date.{Date}
use Rattle.dioid.specs.declared.dates.Date.TheVariants.{Early, At}
use Rattle.teg_net.specs.declared.entries.Place.{Place}
use Rattle.teg_net.specs.Nets.{NetLists}
use Rattle.periodic_laws.specs.teg_model.Systems.{System}
use Rattle.periodic_laws.specs.teg_model.Datings.{system_with}

-- there are no initial tokens: what takes one waits for nothing
abbrev pub no_tokens : Place → ℕ → Date
no_tokens p k = Early

-- the input is released at 0, and nothing else at all
abbrev pub released_alone : ℕ → ℕ → ℕ → Date
released_alone input t k = if input == t then At (pos 0) else Early

-- the places of the net without initial tokens
abbrev pub alone : NetLists → ℕ → System
alone net input = system_with net no_tokens (released_alone input)
