-- What is read off two dates of a row. The contract of `teg_settle::shown_form` rests on it.
use Rattle.std.specs.Prelude.{ℤ, pos, ◌-ℤ◌}
use Rattle.teg_model.specs.dioid.declared.dates.Date.{Date}
use Rattle.teg_model.specs.dioid.declared.dates.Date.TheVariants.{Early, At, Never}

-- the step from one date to another, 0 where one of them is no number
abbrev pub between : Date → Date → ℤ
between Early e = pos 0
between (At x) Early = pos 0
between (At x) (At y) = y -ℤ x
between (At x) Never = pos 0
between Never e = pos 0
