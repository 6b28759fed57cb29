use Rattle.std.proofs.Common.{ℕ, ◌<◌, ◌≤◌, ◌≡◌, ◌≢◌, get_or}
use Rattle.std.specs.Prelude.{Any}
use Rattle.teg_due.specs.declared.rows.DueRow.{DueRow}
use Rattle.dating_check.proofs.rows.greatest_number.Given as goal

abbrev pub invariant-loop-row : goal.invariant-loop-row
invariant-loop-row l = ((j : ℕ) (q : DueRow) → j < l.row-index → (get_or l.rows j q).number ≤ l.greatest)
    × (l.greatest ≢ 0 → Any (λ r. r.number ≡ l.greatest) l.rows)
