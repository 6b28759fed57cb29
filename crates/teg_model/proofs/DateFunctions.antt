-- Datings and initial dates, as functions.
use Rattle.std.specs.Prelude.{ℕ}
use Rattle.dioid.specs.declared.dates.Date.{Date}
use Rattle.teg_net.specs.declared.entries.Place.{Place}

-- a date for each transition and each firing number from 1 on
abbrev pub Dating : Type 0
Dating = ℕ → ℕ → Date

-- for each place the date from which its k-th initial token is available
abbrev pub InitialDates : Type 0
InitialDates = Place → ℕ → Date
