-- Potentials within their bound, and losses listed place by place.
use Rattle.std.proofs.Common.{ℕ, suc, ◌+◌, ◌<◌, ◌≤◌, ◌≡◌, List, [], ◌∷◌, ◌++◌, length, get_or, Bool, true, false, cond, eqb, Option, None, sym, ap, subst, ◌∙◌, arith, ⊎_elim}
use Rattle.std.specs.Prelude.{All}
use Rattle.std.proofs.lemmas.Bool.{cases_lt}
use Rattle.std.proofs.lemmas.Int.{ints}
use Rattle.std.proofs.lemmas.List.{length-append, get_or_append_left, get_or-append-add}
use Rattle.teg_net.specs.declared.entries.PlaceId.{PlaceId}
use Rattle.teg_net.specs.declared.answers.Potential.{Potential}
use Rattle.teg_net.specs.declared.answers.CycleAnswer.{CycleAnswer}
use Rattle.teg_net.specs.Limits.{greatest_checked_potential}
use Rattle.teg_net.specs.Nets.{NetLists}
use Rattle.teg_net.specs.Ratios.{Fraction}
use Rattle.teg_net.specs.ReducedTimes.{IsMagnitudeWithin}
use Rattle.teg_net.specs.Certificates.{potential_at}
use Rattle.teg_critical.specs.declared.losses.Loss.{Loss}
use Rattle.teg_critical.specs.Losses.{IsPlaceLoss, loss_at}

-- ---- potentials

-- a potential that is looked up is within the bound
pub potential_within : (vs : List Potential) (t : ℕ) → All (λ v. IsMagnitudeWithin greatest_checked_potential v.value) vs → IsMagnitudeWithin greatest_checked_potential (potential_at vs t)
potential_within [] t h = record { low = omega (arith, ints); high = omega (arith, ints) }
potential_within (v ∷ vs) t h = by_test (eqb v.transition.index t) (h 0 v (omega arith)) (potential_within vs t (λ i d l. h (suc i) d (omega arith))) where
  by_test : (b : Bool) → IsMagnitudeWithin greatest_checked_potential v.value
      → IsMagnitudeWithin greatest_checked_potential (potential_at vs t) → IsMagnitudeWithin greatest_checked_potential (cond b v.value (potential_at vs t))
  by_test true here rest = here
  by_test false here rest = rest

-- ---- losses

-- the first k places are told
pub record LossesUpTo (net : NetLists) (answer : CycleAnswer) (best : Fraction) (losses : List (Option Loss)) (k : ℕ) : Type 0 where
  pub count : length losses ≡ k
  pub each : (p : PlaceId) → p.index < k → IsPlaceLoss net answer best p (loss_at losses p)

pub losses_more : (net : NetLists) (answer : CycleAnswer) (best : Fraction) (losses : List (Option Loss)) (k : ℕ) (o : Option Loss)
    → LossesUpTo net answer best losses k → IsPlaceLoss net answer best (record { index = k }) o
    → LossesUpTo net answer best (losses ++ (o ∷ [])) (k + 1)
losses_more net answer best losses k o h here =
    let count = h.count in
    record {
      count = length-append losses (o ∷ []) ∙ (let one : length losses + 1 ≡ k + 1 = omega arith in one);
      each = λ p l. ⊎_elim
          (λ (m : p.index < k). subst (IsPlaceLoss net answer best p) (sym (get_or_append_left losses (o ∷ []) None p.index (omega arith))) (h.each p m))
          (λ (m : k ≤ p.index).
          let is : p.index ≡ length losses + 0 = omega arith in
          let same : record { index = k } ≡ p = ap (λ (z : ℕ). record { index = z }) (let e : k ≡ p.index = omega arith in e) in
          let read : loss_at (losses ++ (o ∷ [])) p ≡ o = ap (λ (z : ℕ). get_or (losses ++ (o ∷ [])) z None) is ∙ get_or-append-add losses (o ∷ []) 0 None in
          subst (IsPlaceLoss net answer best p) (sym read) (subst (λ (z : PlaceId). IsPlaceLoss net answer best z o) same here))
          (cases_lt p.index k);
    }
