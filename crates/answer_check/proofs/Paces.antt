-- The best ratio of a certificate is the greatest of the net.
use Rattle.std.proofs.Common.{ℕ, ◌≡◌, List, Option, Some, None, subst}
use Rattle.teg_net.specs.declared.answers.PartAnswer.{PartAnswer}
use Rattle.teg_net.specs.GreatestRatios.{IsAnyPlace, IsCycleTime, IsGreatestRatio}
use Rattle.teg_net.specs.Nets.{NetLists}
use Rattle.teg_net.specs.Ratios.{Fraction}
use Rattle.teg_certificates.specs.BestRatios.{named_ratio}

pub named_is_greatest : (net : NetLists) (answers : List PartAnswer) (best : Option ℕ) (r : Fraction) → IsCycleTime net answers best → named_ratio answers best ≡ Some r
    → IsGreatestRatio net IsAnyPlace r
named_is_greatest net answers None r h e = let none : None ≡ Some r = e in cc
named_is_greatest net answers (Some k) r h e = let same : h.0 ≡ r = cc (h.1, e) in subst (IsGreatestRatio net IsAnyPlace) same h.2
