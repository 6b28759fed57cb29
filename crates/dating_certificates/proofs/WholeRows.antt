-- How many whole rows a list of dates is.
use Rattle.std.proofs.Common.{ℕ, ◌/◌, ◌%◌, ◌≡◌, List, length, sym, ◌∙◌}
use Rattle.std.proofs.Math.Nat.{mul-div_cancel, mul-mod_left}
use Rattle.dioid.specs.declared.dates.Date.{Date}
use Rattle.teg_net.specs.Nets.{NetLists, IsNet}
use Rattle.dating_certificates.specs.CheckedRows.{AreRowsOf}

-- nothing is left over
pub no_rest : (net : NetLists) (dates : List Date) (rows : ℕ) → AreRowsOf net dates rows → length dates % length net.transitions ≡ 0
no_rest net dates rows h = rw h.whole (mul-mod_left rows (length net.transitions))

-- so many fit
pub count_is : (net : NetLists) (dates : List Date) (rows : ℕ) → IsNet net → AreRowsOf net dates rows → length dates / length net.transitions ≡ rows
count_is net dates rows ok h = rw h.whole (mul-div_cancel rows ok.some_transition)

pub same_count : (net : NetLists) (dates : List Date) (a b : ℕ) → IsNet net → AreRowsOf net dates a → AreRowsOf net dates b → a ≡ b
same_count net dates a b ok g h = sym (count_is net dates a ok g) ∙ count_is net dates b ok h
