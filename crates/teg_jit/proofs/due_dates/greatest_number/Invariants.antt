use Rattle.std.proofs.Common.{ℕ, ◌<◌, ◌≤◌, ◌≡◌, ◌≢◌, get_or}
use Rattle.std.specs.Prelude.{Any}
use Rattle.teg_due.specs.DueFileRows.{greatest_due_number}
use Rattle.teg_due.specs.declared.rows.DueRow.{DueRow}
use Rattle.teg_jit.proofs.due_dates.greatest_number.Given as goal

abbrev pub invariant-loop-row : goal.invariant-loop-row
invariant-loop-row l = record {
  most : (k : ℕ) (d : DueRow) → k < l.row-index → (get_or l.rows k d).number ≤ l.greatest;
  named : l.greatest ≢ 0 → Any (λ r. r.number ≡ l.greatest) l.rows;
  within : l.greatest ≤ greatest_due_number;
}
