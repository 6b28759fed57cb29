-- The greatest ratio that cycle times tell.
use Rattle.std.proofs.Common.{◌≡◌, ℕ, List, Option, Some, None, get_or, refl, subst}
use Rattle.std.specs.Prelude.{IfNone, IfSome}
use Rattle.teg_net.specs.declared.answers.PartAnswer.{PartAnswer}
use Rattle.teg_net.specs.declared.answers.PartAnswer.TheVariants.{NoCircuit, Best}
use Rattle.teg_net.specs.GreatestRatios.{IsCycleTime, IsGreatestRatio, IsAnyPlace, HasNoCircuit, ratio_in}
use Rattle.teg_net.specs.Nets.{NetLists}
use Rattle.teg_net.specs.PartAnswers.{ArePartAnswers, IsPartAnswer}
use Rattle.teg_net.specs.Ratios.{Fraction, IsLowestTerms}
use Rattle.teg_cycle.specs.teg_certificates.BestRatios.{named_ratio}
use Rattle.teg_cycle.proofs.teg_certificates_proofs.NamedRatios.{told_in}
use Rattle.teg_pace_commands.specs.Slack.{IsBestRatio}

-- where no ratio is told the net has no circuit
pub named_none : (net : NetLists) (answers : List PartAnswer) (best : Option ℕ) → IsCycleTime net answers best → named_ratio answers best ≡ None → HasNoCircuit net IsAnyPlace
named_none net answers None h e = h
named_none net answers (Some k) h e = let told = h.1 in let f : ⊥ = cc in absurd f

terms_of : (net : NetLists) (part_of : List ℕ) (k : ℕ) (answer : PartAnswer) (r : Fraction) → IsPartAnswer net part_of k answer → ratio_in answer ≡ Some r → IsLowestTerms r
terms_of net part_of k NoCircuit r h e = let f : ⊥ = cc in absurd f
terms_of net part_of k (Best ratio circuit potentials) r h e = let is : ratio ≡ r = cc in subst IsLowestTerms is h.terms

-- the ratio that is told is the greatest of the net
pub named_best : (net : NetLists) (part_of : List ℕ) (answers : List PartAnswer) (best : Option ℕ) (r : Fraction)
    → IsCycleTime net answers best → ArePartAnswers net part_of answers → named_ratio answers best ≡ Some r → IsBestRatio net r
named_best net part_of answers None r h parts e = let f : ⊥ = cc in absurd f
named_best net part_of answers (Some k) r h parts e =
    let told = h.1 in
    let is : h.0 ≡ r = cc in
    record { greatest = subst (IsGreatestRatio net IsAnyPlace) is h.2; terms = terms_of net part_of k (get_or answers k NoCircuit) r (parts k (told_in answers k r e)) e }

pub none_is : {X : Type 0} (o : Option X) (P : Type 0) → (o ≡ None → P) → IfNone o P
none_is None P h = h refl
none_is (Some x) P h = tt

pub some_is : {X : Type 0} (o : Option X) (P : X → Type 0) → ((x : X) → o ≡ Some x → P x) → IfSome o P
some_is None P h = tt
some_is (Some x) P h = h x refl
