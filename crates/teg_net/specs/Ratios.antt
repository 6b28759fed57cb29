-- Ratios of holding time to tokens (chapters 2 and 3).
use Rattle.std.specs.Prelude.{ℕ, ◌*◌, ◌<◌, ◌≤◌, ◌≡◌}
use Rattle.std.specs.Int.{◌∣◌}
use Rattle.std.specs.Ordering.{MatchOrdering}
use Rattle.std.specs.declared.cmp.Ordering.{Ordering}
use Rattle.teg_net.specs.Limits.{greatest_checked_ratio}

-- a time over a number of tokens
pub record Fraction : Type 0 where
  pub time : ℕ
  pub tokens : ℕ

-- there is a token, and no number but 1 divides both
pub record IsLowestTerms (r : Fraction) : Type 0 where
  pub some : 1 ≤ r.tokens
  pub lowest : (d : ℕ) → d ∣ r.time → d ∣ r.tokens → d ≡ 1

-- the ordering is that of the two ratios, compared by products of whole numbers
abbrev pub IsOrderOf : Ordering → Fraction → Fraction → Type 0
IsOrderOf order r s =
    MatchOrdering order (r.time * s.tokens < s.time * r.tokens) (r.time * s.tokens ≡ s.time * r.tokens) (s.time * r.tokens < r.time * s.tokens)

-- the ratio of this time to these tokens, in lowest terms
pub record IsRatioOf (time tokens : ℕ) (r : Fraction) : Type 0 where
  pub same : time * r.tokens ≡ r.time * tokens
  pub terms : IsLowestTerms r

-- the ratio keeps the limits of an answer that is checked
pub record IsRatioWithin (r : Fraction) : Type 0 where
  pub time_in : r.time ≤ greatest_checked_ratio
  pub tokens_in : r.tokens ≤ greatest_checked_ratio
