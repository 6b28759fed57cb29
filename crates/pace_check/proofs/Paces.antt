-- What the best ratio of a certificate is, and that it can be told.
use Rattle.std.proofs.Common.{ℕ, ◌≡◌, List, Option, Some, None, refl, sym, subst}
use Rattle.std.specs.Prelude.{IfSome}
use Rattle.teg_net.specs.declared.answers.CycleAnswer.{CycleAnswer}
use Rattle.teg_net.specs.declared.answers.PartAnswer.{PartAnswer}
use Rattle.teg_net.specs.GreatestRatios.{IsAnyPlace, IsCycleTime, IsGreatestRatio}
use Rattle.teg_net.specs.Nets.{NetLists}
use Rattle.teg_net.specs.Ratios.{Fraction}
use Rattle.teg_certificates.specs.BestRatios.{best_ratio_of, named_ratio}
use Rattle.pace_check.specs.ShownCycles.{IsShownPace, IsShownTimes}

-- a part is named where there is a best ratio
pub part_is_named : (answers : List PartAnswer) (best : Option ℕ) (r : Fraction) → named_ratio answers best ≡ Some r → (k : ℕ) × (best ≡ Some k)
part_is_named answers None r e = let none : None ≡ Some r = e in cc
part_is_named answers (Some k) r e = (k, refl)

-- the best ratio is the greatest
pub best_is_greatest : (net : NetLists) (answers : List PartAnswer) (best : Option ℕ) (r : Fraction) → IsCycleTime net answers best → named_ratio answers best ≡ Some r
    → IsGreatestRatio net IsAnyPlace r
best_is_greatest net answers None r h e = let none : None ≡ Some r = e in cc
best_is_greatest net answers (Some k) r h e = let same : h.0 ≡ r = cc (h.1, e) in subst (IsGreatestRatio net IsAnyPlace) same h.2

-- where cycle times are told, their ratio is shown
pub pace_of_times : (net : NetLists) (text : List ℕ) (answer : CycleAnswer) (r : Option Fraction) → IsShownTimes net text answer → r ≡ best_ratio_of answer → IfSome r (IsShownPace net text)
pace_of_times net text answer None h e = tt
pace_of_times net text answer (Some r) h e =
    let same : h.greatest.0 ≡ r = cc (h.greatest.1, e) in
    record { live = h.live; greatest = subst (IsGreatestRatio net IsAnyPlace) same h.greatest.2; times = (answer, sym e, h.times) }
