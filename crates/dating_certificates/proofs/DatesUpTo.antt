-- Dates of rows up to a number are those of the rows.
use Rattle.std.proofs.Common.{ℕ, ◌≤◌, ◌≡◌, true, leb, List, refl, arith}
use Rattle.std.proofs.lemmas.Bool.Decides.{nat_tests}
use Rattle.dioid.specs.declared.dates.Date.{Date}
use Rattle.dating_certificates.specs.CheckedRows.{date_in_rows, date_up_to}

pub told_in : (numbers width : ℕ) (dates : List Date) (t k : ℕ) → k ≤ numbers → date_up_to numbers width dates t k ≡ date_in_rows width dates t k
told_in numbers width dates t k l = let b : leb k numbers ≡ true = grind (arith, nat_tests) in rw b refl
