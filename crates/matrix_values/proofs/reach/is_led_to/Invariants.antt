use Rattle.std.proofs.Common.{ℕ, ◌<◌}
use Rattle.dioid_spectra.specs.Eigenvectors.{IsNumber, entry_at}
use Rattle.matrix_values.specs.RowReach.{IsMarkedRow}
use Rattle.matrix_values.proofs.reach.is_led_to.Given as goal

abbrev pub invariant-loop-column : goal.invariant-loop-column
invariant-loop-column l = (j : ℕ) → j < l.column → IsMarkedRow l.marks j → IsNumber (entry_at l.a l.row j) → ⊥
