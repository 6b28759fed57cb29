-- The ratio that an answer on cycle times tells of the net.
use Rattle.std.specs.Prelude.{ℕ, List, Option, Some, None}
use Rattle.teg_net.specs.declared.answers.CycleAnswer.{CycleAnswer}
use Rattle.teg_net.specs.declared.answers.PartAnswer.{PartAnswer}
use Rattle.teg_net.specs.Ratios.{Fraction}
use Rattle.teg_net.specs.GreatestRatios.{ratio_at}

-- the ratio of the part of this number, if one is named and it tells a ratio
abbrev pub named_ratio : List PartAnswer → Option ℕ → Option Fraction
named_ratio answers None = None
named_ratio answers (Some k) = ratio_at answers k

-- the ratio of the best part
abbrev pub best_ratio_of : CycleAnswer → Option Fraction
best_ratio_of answer = named_ratio answer.parts.items answer.best
