-- The best of the answers below a number.
use Rattle.std.specs.Prelude.{ℕ, ◌*◌, ◌<◌, ◌≤◌, ◌≡◌, List, Some, Option, None}
use Rattle.teg_net.specs.declared.answers.PartAnswer.{PartAnswer}
use Rattle.teg_net.specs.Ratios.{Fraction}
use Rattle.teg_net.specs.GreatestRatios.{ratio_at}
use Rattle.teg_cycle.specs.declared.best_parts.BestPart.{BestPart}

-- the first of the answers below i of greatest ratio
pub record IsFirstBelow (answers : List PartAnswer) (i k : ℕ) (r : Fraction) : Type 0 where
  pub below : k < i
  pub here : ratio_at answers k ≡ Some r
  pub greatest : (j : ℕ) (q : Fraction) → j < i → ratio_at answers j ≡ Some q → q.time * r.tokens ≤ r.time * q.tokens
  pub first : (j : ℕ) (q : Fraction) → j < k → ratio_at answers j ≡ Some q → q.time * r.tokens < r.time * q.tokens

-- the best of the answers below i
abbrev pub IsBestBelow : List PartAnswer → ℕ → Option BestPart → Type 0
IsBestBelow answers i None = (j : ℕ) → j < i → ratio_at answers j ≡ None
IsBestBelow answers i (Some b) = IsFirstBelow answers i b.part b.ratio
