-- The greatest times of walks from an input are causal periodic series.
use Rattle.std.proofs.Common.{ℕ, ℤ, zero, suc, pos, negsuc, ◌+◌, ◌≤◌, ◌≡◌, ◌⊎◌, inl, inr, List, [], ◌∷◌, ◌++◌, sym, ap, subst, ◌∙◌, arith, ⊎_elim, ◌+ℤ◌}
use Rattle.std.proofs.lemmas.Int.{ints}
use Rattle.std.proofs.lemmas.List.Sums.{sum_by-append, sum_by-cons}
use Rattle.walk_times.specs.dioid.declared.dates.Date.{Date}
use Rattle.walk_times.specs.dioid.declared.dates.Date.TheVariants.{Early, At}
use Rattle.walk_times.specs.dioid.Dates.{IsAtMostDate, delayed, move}
use Rattle.walk_times.proofs.dioid_proofs.DateOrder.{at_most_refl, at_most_trans}
use Rattle.walk_times.proofs.dioid_proofs.Moves.{delayed_is_move}
use Rattle.walk_times.specs.teg_net.declared.walks.Step.{Step}
use Rattle.walk_times.specs.teg_net.declared.walks.Step.TheVariants.{By, Next}
use Rattle.walk_times.specs.teg_net.Nets.{NetLists}
use Rattle.walk_times.specs.teg_net.Circuits.{place_at}
use Rattle.walk_times.specs.teg_net.Walks.{Walks, step_time, walk_time}
use Rattle.walk_times.specs.settled_laws.SettledForms.{SettledForm, step_of_form}
use Rattle.walk_times.specs.Transfers.{IsGreatestWalkTime, AreWalkTimes}
use Rattle.walk_times.specs.WalkTimes.{WalkTimesSettle}
use Rattle.realization_laws.specs.Realizations.{IsCausalPeriodic, TransfersArePeriodic}

-- a walk waits one firing more
one_more : (net : NetLists) (steps : List Step) (a j b k : ℕ) → Walks net a j steps b k → Walks net a j (steps ++ Next ∷ []) b (k + 1)
one_more net [] a j b k w = (w.0, ap (λ i. i + 1) w.1)
one_more net (By p ∷ steps) a j b k w = (w.0, w.1, one_more net steps (place_at net p).to.index (j + (place_at net p).tokens) b k w.2)
one_more net (Next ∷ steps) a j b k w = one_more net steps a (j + 1) b k w

waits : (net : NetLists) (steps : List Step) → walk_time net (steps ++ Next ∷ []) ≡ walk_time net steps
waits net steps =
    let e = sum_by-append (step_time net) steps (Next ∷ []) in
    let f = sum_by-cons (step_time net) Next [] in
    omega (arith, e, f)

module _ (net : NetLists) (input t : ℕ) (y : ℕ → Date) (times : (k : ℕ) → IsGreatestWalkTime net input t (k + 1) (y k)) where
  causal : (k : ℕ) → (y k ≡ Early) ⊎ ((m : ℕ) × (y k ≡ At (pos m)))
  causal k = ⊎_elim (λ e. inl e.0) (λ w. inr (walk_time net w.0, w.2)) (times k).reached

  never_falls : (k : ℕ) → IsAtMostDate (y k) (y (k + 1))
  never_falls k = ⊎_elim
      (λ e. subst (λ d. IsAtMostDate d (y (k + 1))) (sym e.0) tt)
      (λ w.
      let up = (times (k + 1)).greatest (w.0 ++ Next ∷ []) (one_more net w.0 input 1 t (k + 1) w.1) in
      let time : At (pos (walk_time net (w.0 ++ Next ∷ []))) ≡ y k = ap (λ z. At (pos z)) (waits net w.0) ∙ sym w.2 in
      subst (λ d. IsAtMostDate d (y (k + 1))) time up)
      (times k).reached

  climb_many : (k j : ℕ) → IsAtMostDate (y k) (y (k + j))
  climb_many k zero = let e : k + 0 ≡ k = omega arith in rw e (at_most_refl (y k))
  climb_many k (suc j) =
      let e : k + suc j ≡ (k + j) + 1 = omega arith in
      rw e (at_most_trans (y k) (y (k + j)) (y ((k + j) + 1)) (climb_many k j) (never_falls (k + j)))

  pub periodic : (z : ℤ) (begin period : ℕ) → 1 ≤ period → ((k : ℕ) → begin ≤ k → y (k + period) ≡ move z (y k)) → IsCausalPeriodic y
  periodic (pos q) begin period some again = record {
    causal = causal;
    never_falls = never_falls;
    begin = begin;
    period = period;
    step = q;
    some = some;
    again = λ k l. again k l ∙ sym (delayed_is_move q (y k));
  }
  periodic (negsuc q) begin period some again = record {
    causal = causal;
    never_falls = never_falls;
    begin = begin;
    period = period;
    step = 0;
    some = some;
    again = λ k l. again k l ∙ ap (move (negsuc q)) (early k l) ∙ ap (delayed 0) (sym (early k l));
  } where
    early : (k : ℕ) → begin ≤ k → y k ≡ Early
    early k l = ⊎_elim
        (λ e. e)
        (λ w.
        let next : y (k + period) ≡ At (pos w.0 +ℤ negsuc q) = again k l ∙ ap (move (negsuc q)) w.1 in
        let up : IsAtMostDate (At (pos w.0)) (At (pos w.0 +ℤ negsuc q)) = subst (λ d. IsAtMostDate (At (pos w.0)) d) next (subst (λ d. IsAtMostDate d (y (k + period))) w.1 (climb_many k period)) in
        absurd (omega (arith, ints, up)))
        (causal k)

pub are_periodic : WalkTimesSettle → TransfersArePeriodic
are_periodic settle net ends live input is =
    let w = settle net ends live input is in
    let f : SettledForm = w.0 in
    let x : ℕ → ℕ → Date = w.1.0 in
    let times : AreWalkTimes net input x = w.1.1 in
    let h = w.1.2.stands.repeats in (
      x,
      times,
      λ t l. periodic net input t (λ k. x t (k + 1)) (λ k. times t (k + 1) l (omega arith)) (step_of_form f t) f.after f.period h.at_least_one
          (λ k m. let e : k + f.period + 1 ≡ k + 1 + f.period = omega arith in ap (x t) e ∙ h.again t (k + 1) l (omega (arith, m))),
    )
