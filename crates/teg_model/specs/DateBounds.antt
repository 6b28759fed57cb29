-- Dates that stay within a bound.
use Rattle.std.specs.Prelude.{ℕ, pos, ◌≤◌, ◌≤ℤ◌, ◌*◌, ◌^◌, All, ⊤}
use Rattle.dioid.specs.declared.dates.Date.{Date}
use Rattle.dioid.specs.declared.dates.Date.TheVariants.{Early, At, Never}
use Rattle.teg_model.specs.Systems.{System}

-- a number from 0 to n, or none
abbrev pub IsDateWithin : ℕ → Date → Type 0
IsDateWithin n Early = ⊤
IsDateWithin n (At x) = (pos 0 ≤ℤ x) × (x ≤ℤ pos n)
IsDateWithin n Never = ⊤

-- each hold is at most `hold`; the initial tokens and the releases of firing k come within a bound that never falls in k
pub record IsBoundedBy (s : System) (hold : ℕ) (first : ℕ → ℕ) : Type 0 where
  pub holds : All (λ p. p.hold ≤ hold) s.places
  pub grows : (j k : ℕ) → j ≤ k → first j ≤ first k
  pub initial : All (λ p. (k : ℕ) → 1 ≤ k → k ≤ p.tokens → IsDateWithin (first k) (s.initial p k)) s.places
  pub release : (t k : ℕ) → 1 ≤ k → IsDateWithin (first k) (s.release t k)

-- what no least date of a net's numbers up to the greatest exceeds
abbrev pub greatest_least_date : ℕ
greatest_least_date = 2 * 10 ^ 30
