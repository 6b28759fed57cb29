-- Dates of settled forms as series (chapters 3 and 5).
use Rattle.std.specs.Prelude.{ℕ, ◌+◌, length}
use Rattle.series_ops.specs.dioid.declared.dates.Date.{Date}
use Rattle.teg_settle.specs.settled_laws.SettledForms.{SettledForm, settled_date, NeverFalls}

-- the date of firing k + 1 of the transition
abbrev pub dates_from : SettledForm → ℕ → ℕ → Date
dates_from f t k = settled_date f t (k + 1)

-- the dates that the form tells never fall
abbrev pub NeverFallsAnywhere : SettledForm → Type 0
NeverFallsAnywhere f = NeverFalls (length f.rows) (settled_date f)
