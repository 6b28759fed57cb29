-- The part that is named as the first of greatest ratio.
use Rattle.std.proofs.Common.{ℕ, ◌<◌, ◌≤◌, ◌≡◌, List, Some, None, length, take, sym, ap, subst, ◌∙◌, arith, ⊎_elim}
use Rattle.std.specs.Prelude.{All}
use Rattle.std.proofs.lemmas.Bool.{cases_lt}
use Rattle.std.proofs.lemmas.List.{get_or_past, get_or_default, get_or-take, length-take-le}
use Rattle.teg_net.specs.Ratios.{Fraction}
use Rattle.teg_net.specs.declared.answers.PartAnswer.{PartAnswer}
use Rattle.teg_net.specs.declared.answers.PartAnswer.TheVariants.{NoCircuit}
use Rattle.teg_net.specs.GreatestRatios.{ratio_in, ratio_at, IsFirstGreatest, IsFirstGreatestAt}
use Rattle.teg_certificates.specs.Checks.{IsNotAbove, IsBelow}

-- past the end no ratio is told
pub told_in : (answers : List PartAnswer) (j : ℕ) (q : Fraction) → ratio_at answers j ≡ Some q → j < length answers
told_in answers j q e =
    ⊎_elim
    (λ (l : j < length answers). l)
    (λ (l : length answers ≤ j). let w : ratio_at answers j ≡ None = ap ratio_in (get_or_past answers j NoCircuit l) in let f : ⊥ = cc in absurd f)
    (cases_lt j (length answers))

module _ (answers : List PartAnswer) (k : ℕ) (r : Fraction) (l : k < length answers) (here : ratio_at answers k ≡ Some r) where
  first_is : All (IsNotAbove r) answers → All (IsBelow r) (take k answers) → IsFirstGreatestAt answers k r
  first_is most less = record {
    here = here;
    greatest = λ j q e. most j NoCircuit (told_in answers j q e) q e;
    first = λ j q m e.
        let long = length-take-le k answers (omega arith) in
        less j NoCircuit (omega arith) q (ap ratio_in (get_or-take k answers j NoCircuit m) ∙ e);
  }

  one_told : IsFirstGreatest answers (Some k) → IsFirstGreatestAt answers k r
  one_told h =
      let both : Some h.0 ≡ Some r = sym h.1.here ∙ here in
      let is : h.0 ≡ r = cc in
      subst (IsFirstGreatestAt answers k) is h.1

  -- the part is the first of greatest ratio exactly where no answer tells a greater ratio and each before it a smaller one
  pub first_told : All (IsNotAbove r) answers → All (IsBelow r) (take k answers) → IsFirstGreatest answers (Some k)
  first_told most less = (r, first_is most less)

  pub none_greater : IsFirstGreatest answers (Some k) → All (IsNotAbove r) answers
  none_greater h i d m q e =
      let f = one_told h in
      f.greatest i q (ap ratio_in (get_or_default answers i NoCircuit d m) ∙ e)

  pub all_smaller : IsFirstGreatest answers (Some k) → All (IsBelow r) (take k answers)
  all_smaller h i d m q e =
      let f = one_told h in
      let long = length-take-le k answers (omega arith) in
      let n : i < k = omega arith in
      f.first i q n (ap ratio_in (get_or_default answers i NoCircuit d (omega arith) ∙ sym (get_or-take k answers i d n)) ∙ e)

-- no ratio is told exactly where no part is named
pub none_named : (answers : List PartAnswer) → All (λ a. ratio_in a ≡ None) answers → IsFirstGreatest answers None
none_named answers h j =
    ⊎_elim
    (λ (l : j < length answers). h j NoCircuit l)
    (λ (l : length answers ≤ j). ap ratio_in (get_or_past answers j NoCircuit l))
    (cases_lt j (length answers))

pub named_none : (answers : List PartAnswer) → IsFirstGreatest answers None → All (λ a. ratio_in a ≡ None) answers
named_none answers h i d l = ap ratio_in (get_or_default answers i d NoCircuit l) ∙ h i
