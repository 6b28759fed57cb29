-- Working definitions of the search for the first part of greatest ratio.
use Rattle.std.specs.Prelude.{ℕ, ◌*◌, ◌<◌, ◌≤◌, ◌≡◌, ⊤, List, Option, Some, None}
use Rattle.teg_net.specs.declared.answers.PartAnswer.{PartAnswer}
use Rattle.teg_net.specs.Ratios.{Fraction}
use Rattle.teg_net.specs.GreatestRatios.{ratio_at}
use Rattle.teg_cycle.specs.declared.best_parts.BestPart.{BestPart}

-- the ratio is greater than that of the best part so far
abbrev pub IsRatioAbove : Fraction → Option BestPart → Type 0
IsRatioAbove r None = ⊤
IsRatioAbove r (Some b) = b.ratio.time * r.tokens < r.time * b.ratio.tokens

-- each ratio told has a token
abbrev pub HaveTokens : List PartAnswer → Type 0
HaveTokens answers = (k : ℕ) (q : Fraction) → ratio_at answers k ≡ Some q → 1 ≤ q.tokens
