-- Functions from shifts to dates that never fall and repeat from a shift on.
use Rattle.std.proofs.Common.{◌≡◌, ℕ, ℤ, pos, zero, suc, ◌+◌, ◌≤◌, ◌+ℤ◌}
use Rattle.dioid.specs.declared.dates.Date.{Date}
use Rattle.dioid.specs.Dates.{move}
use Rattle.dioid.specs.DateOrder.{Le}

-- f never falls
pub record Rising (f : ℕ → Date) : Type 0 where
  pub rises : (j k : ℕ) → j ≤ k → Le (f j) (f k)

-- from p on, n shifts move a value by x
pub record Repeats (f : ℕ → Date) (p n : ℕ) (x : ℤ) : Type 0 where
  pub at : (k : ℕ) → p ≤ k → f (k + n) ≡ move x (f k)

-- m times x
abbrev pub times : ℕ → ℤ → ℤ
times zero x = pos 0
times (suc m) x = times m x +ℤ x
