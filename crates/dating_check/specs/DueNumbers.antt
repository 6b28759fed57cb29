-- The numbers of the rows of a due list.
use Rattle.std.specs.Prelude.{ℕ, ◌≤◌, ◌≡◌, ◌≢◌, List, All, Any}
use Rattle.teg_due.specs.declared.rows.DueRow.{DueRow}

-- the greatest number that a row names, 0 for no rows
pub record IsGreatestNumber (rows : List DueRow) (n : ℕ) : Type 0 where
  pub most : All (λ r. r.number ≤ n) rows
  pub named : n ≢ 0 → Any (λ r. r.number ≡ n) rows
