-- Dates in eight bytes each.
use Rattle.std.specs.Prelude.{ℕ, ℤ, pos, nat_eq, int_lt, if◌then◌else◌}
use Rattle.std.specs.Ordering.{int_eq}
use Rattle.dioid.specs.declared.dates.Date.{Date}
use Rattle.dioid.specs.declared.dates.Date.TheVariants.{Early, At, Never}

-- the greatest number of eight bytes
abbrev pub no_number : ℕ
no_number = 18446744073709551615

-- the date of such a number: itself, but for the greatest, which is that of a firing that never comes
abbrev pub date_of_cell : ℕ → Date
date_of_cell c = if nat_eq c no_number then Never else At (pos c)

-- the greatest signed number of eight bytes
abbrev pub no_signed_number : ℤ
no_signed_number = pos 9223372036854775807

-- the date of such a number: itself from 0 on, but for the greatest; one below 0 stands for a date before all others
abbrev pub date_of_signed_cell : ℤ → Date
date_of_signed_cell c = if int_lt c (pos 0) then Early else (if int_eq c no_signed_number then Never else At c)
