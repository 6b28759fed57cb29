-- The first part of greatest ratio.
use Rattle.std.proofs.Common.{ℕ, ◌+◌, ◌*◌, ◌<◌, ◌≤◌, ◌≡◌, List, Option, Some, None, refl, ap, subst, ◌∙◌, arith, inl, inr, ⊎_elim}
use Rattle.std.specs.Prelude.{◌⊎◌}
use Rattle.std.proofs.lemmas.Bool.{cases_lt}
use Rattle.teg_net.specs.Ratios.{Fraction}
use Rattle.teg_net.specs.declared.answers.PartAnswer.{PartAnswer}
use Rattle.teg_net.specs.GreatestRatios.{ratio_at, IsFirstGreatest}
use Rattle.teg_cycle.specs.declared.best_parts.BestPart.{BestPart}
use Rattle.teg_cycle.specs.BestParts.{IsRatioAbove, HaveTokens}
use Rattle.teg_certificates.proofs.Ratios.{ratio_trans_less}
use Rattle.teg_cycle.proofs.BestBelow.{IsFirstBelow, IsBestBelow}

module _ (answers : List PartAnswer) (i : ℕ) where
  step_cases : (j : ℕ) → j < i + 1 → (j < i) ⊎ (j ≡ i)
  step_cases j l = ⊎_elim (λ (q : j < i). inl q) (λ (q : i ≤ j). inr (omega arith)) (cases_lt j i)

  pub part_skip : (best : Option BestPart) → IsBestBelow answers i best → ratio_at answers i ≡ None → IsBestBelow answers (i + 1) best
  part_skip None h e = λ j l. ⊎_elim (λ (q : j < i). h j q) (λ (q : j ≡ i). ap (ratio_at answers) q ∙ e) (step_cases j l)
  part_skip (Some b) h e =
      let k = h.below in
      record {
        below = omega arith;
        here = h.here;
        first = h.first;
        greatest = λ j r l s. ⊎_elim (λ (q : j < i). h.greatest j r q s) (λ (q : j ≡ i). let w = ap (ratio_at answers) q in let f : ⊥ = cc in absurd f) (step_cases j l);
      }

  pub part_keep : (best : Option BestPart) (r : Fraction) → IsBestBelow answers i best → ratio_at answers i ≡ Some r → (IsRatioAbove r best → ⊥) → IsBestBelow answers (i + 1) best
  part_keep None r h e low = absurd (low tt)
  part_keep (Some b) r h e low =
      let k = h.below in
      let le : r.time * b.ratio.tokens ≤ b.ratio.time * r.tokens =
      ⊎_elim (λ (q : b.ratio.time * r.tokens < r.time * b.ratio.tokens). absurd (low q))
      (λ (q : r.time * b.ratio.tokens ≤ b.ratio.time * r.tokens). q) (cases_lt (b.ratio.time * r.tokens) (r.time * b.ratio.tokens)) in
      record {
        below = omega arith;
        here = h.here;
        first = h.first;
        greatest = λ j q l s.
            ⊎_elim
            (λ (z : j < i). h.greatest j q z s)
            (λ (z : j ≡ i). let w = ap (ratio_at answers) z in let is : r ≡ q = cc in subst (λ x. x.time * b.ratio.tokens ≤ b.ratio.time * x.tokens) is le)
            (step_cases j l);
      }

  pub part_take : (best : Option BestPart) (r : Fraction) → HaveTokens answers → IsBestBelow answers i best → ratio_at answers i ≡ Some r → IsRatioAbove r best → IsFirstBelow answers (i + 1) i r
  part_take None r some h e above = record {
    below = omega arith;
    here = e;
    greatest = λ j q l s. ⊎_elim (λ (z : j < i). let w = h j z in let f : ⊥ = cc in absurd f)
        (λ (z : j ≡ i). let w = ap (ratio_at answers) z in let is : r ≡ q =
        cc in subst (λ x. x.time * r.tokens ≤ r.time * x.tokens) is (omega arith)) (step_cases j l);
    first = λ j q l s. let w = h j l in let f : ⊥ = cc in absurd f;
  }
  part_take (Some b) r some h e above =
      let less = λ (j : ℕ) (q : Fraction) (l : j < i) (s : ratio_at answers j ≡ Some q).
      ratio_trans_less q.time q.tokens b.ratio.time b.ratio.tokens r.time r.tokens (let t = some b.part b.ratio h.here in omega arith) (let t = some j q s in omega arith) (h.greatest j q l s) above in
      record {
        below = omega arith;
        here = e;
        greatest = λ j q l s. ⊎_elim (λ (z : j < i). let m = less j q z s in omega arith)
            (λ (z : j ≡ i). let w = ap (ratio_at answers) z in let is : r ≡ q =
            cc in subst (λ x. x.time * r.tokens ≤ r.time * x.tokens) is (omega arith)) (step_cases j l);
        first = λ j q l s. less j q l s;
      }

-- the first part of greatest ratio is one
pub one_first : (answers : List PartAnswer) (a b : Option ℕ) → IsFirstGreatest answers a → IsFirstGreatest answers b → a ≡ b
one_first answers None None h k = refl
one_first answers None (Some b) h k = let w = h b in let v = k.1.here in let f : ⊥ = cc in absurd f
one_first answers (Some a) None h k = let w = k a in let v = h.1.here in let f : ⊥ = cc in absurd f
one_first answers (Some a) (Some b) h k =
    let up = h.1.greatest b k.0 k.1.here in
    let down = k.1.greatest a h.0 h.1.here in
    let same : a ≡ b =
    ⊎_elim
    (λ (l : a < b). let s = k.1.first a h.0 l h.1.here in absurd (omega arith))
    (λ (l : b ≤ a).
    ⊎_elim
    (λ (m : b < a). let s = h.1.first b k.0 m k.1.here in absurd (omega arith))
    (λ (m : a ≤ b). let r : a ≡ b = omega arith in r)
    (cases_lt b a))
    (cases_lt a b) in
    ap (λ x. Some x) same
