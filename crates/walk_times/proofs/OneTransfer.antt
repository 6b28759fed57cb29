-- The greatest times of walks from an input have one shortest form.
use Rattle.std.proofs.Common.{ℕ, ◌+◌, ◌≡◌, List, [], ◌∷◌, ◌++◌, length, refl, subst, arith, ⊎_elim}
use Rattle.std.specs.Prelude.{pos}
use Rattle.std.proofs.lemmas.List.Sums.{sum_by-cons}
use Rattle.dioid.specs.declared.dates.Date.{Date}
use Rattle.dioid.specs.declared.dates.Date.TheVariants.{Early, At}
use Rattle.dioid.specs.Dates.{IsAtMostDate}
use Rattle.dioid.proofs.DateOrder.{same_by_at_most}
use Rattle.teg_net.specs.declared.walks.Step.{Step}
use Rattle.teg_net.specs.declared.walks.Step.TheVariants.{Next}
use Rattle.teg_net.specs.Nets.{NetLists}
use Rattle.teg_net.specs.Walks.{Walks, walk_time, step_time}
use Rattle.periodic_laws.proofs.teg_model_proofs.WalkSteps.{walk_append, walk_time-append}
use Rattle.periodic_laws.proofs.teg_model_proofs.DateFunctions.{Dating}
use Rattle.periodic_laws.proofs.settled_laws_proofs.Shortest.{shortest_is_one}
use Rattle.periodic_laws.proofs.settled_laws_proofs.Alike.{AreAlike, shortest_alike, past_alike}
use Rattle.walk_times.specs.Transfers.{IsGreatestWalkTime, AreWalkTimes}
use Rattle.walk_times.specs.WalkTimes.{TransfersAreOne, TransferLimitsAreTold}

-- a walk goes on to the next firing of its last transition in the same time
on_to_next : (net : NetLists) (input t k : ℕ) (steps : List Step) → Walks net input 1 steps t k → Walks net input 1 (steps ++ Next ∷ []) t (k + 1)
on_to_next net input t k steps w = walk_append net steps (Next ∷ []) input 1 t k t (k + 1) w (refl, refl)

same_time : (net : NetLists) (steps : List Step) → walk_time net (steps ++ Next ∷ []) ≡ walk_time net steps
same_time net steps =
    let one : walk_time net (Next ∷ []) ≡ 0 + 0 = sum_by-cons (step_time net) Next [] in
    omega (arith, walk_time-append net steps (Next ∷ []), one)

-- so the greatest times never fall
climb : (net : NetLists) (input t k : ℕ) (d e : Date) → IsGreatestWalkTime net input t k d → IsGreatestWalkTime net input t (k + 1) e → IsAtMostDate d e
climb net input t k d e a b =
    ⊎_elim
    (λ (n : (d ≡ Early) × ((steps : List Step) → Walks net input 1 steps t k → ⊥)). rw n.0 tt)
    (λ (w : (steps : List Step) × Walks net input 1 steps t k × (d ≡ At (pos (walk_time net steps)))).
    let up = b.greatest (w.0 ++ Next ∷ []) (on_to_next net input t k w.0 w.1) in
    rw w.2 (subst (λ n. IsAtMostDate (At (pos n)) e) (same_time net w.0) up))
    a.reached

-- and there are no two of them
below : (net : NetLists) (input t k : ℕ) (d e : Date) → IsGreatestWalkTime net input t k d → IsGreatestWalkTime net input t k e → IsAtMostDate d e
below net input t k d e a b =
    ⊎_elim
    (λ (n : (d ≡ Early) × ((steps : List Step) → Walks net input 1 steps t k → ⊥)). rw n.0 tt)
    (λ (w : (steps : List Step) × Walks net input 1 steps t k × (d ≡ At (pos (walk_time net steps)))). rw w.2 (b.greatest w.0 w.1))
    a.reached

times_alike : (net : NetLists) (input : ℕ) (x y : Dating) → AreWalkTimes net input x → AreWalkTimes net input y → AreAlike (length net.transitions) x y
times_alike net input x y a b = record {
  same = λ i k l o. same_by_at_most (x i k) (y i k)
      (below net input i k (x i k) (y i k) (a i k l o) (b i k l o))
      (below net input i k (y i k) (x i k) (b i k l o) (a i k l o));
}

pub transfers_are_one : TransfersAreOne
transfers_are_one net input f g a b =
    shortest_is_one (length net.transitions) a.0 (λ t k l o. climb net input t k (a.0 t k) (a.0 t (k + 1)) (a.1 t k l o) (a.1 t (k + 1) l (omega arith))) f g a.2
    (shortest_alike (length net.transitions) g b.0 a.0 (times_alike net input b.0 a.0 b.1 a.1) b.2)

pub transfer_limits_are_told : TransferLimitsAreTold
transfer_limits_are_told net input limit f a h =
    past_alike (length net.transitions) h.0 a.0 limit (times_alike net input h.0 a.0 h.1 a.1) h.2 f a.2.stands
