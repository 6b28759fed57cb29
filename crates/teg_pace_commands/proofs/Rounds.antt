-- The choices of a round.
use Rattle.std.proofs.Common.{◌≡◌, ℕ, zero, suc, ◌<◌, ◌==◌, true, false, List, [], ◌∷◌, AllPairs, Some, length, get_or, refl, arith, eq-eqb, ne_eqb}
use Rattle.std.proofs.lemmas.List.{get_or-map, length-map}
use Rattle.teg_net.specs.declared.rounds.Choice.{Choice}
use Rattle.policy_rounds.specs.PolicyRounds.{choice_of_member, chosen_for}

-- the choice for the transition of a choice is this one
pub choice_at : (cs : List Choice) → AllPairs (λ t u. t < u) (chosen_for cs) → (i : ℕ) (d : Choice) → i < length cs →
    choice_of_member cs (get_or cs i d).transition.index ≡ Some (get_or cs i d)
choice_at [] rises i d l = absurd (omega (arith, l))
choice_at (c ∷ cs) rises zero d l =
    let here : (c.transition.index == c.transition.index) ≡ true = eq-eqb c.transition.index c.transition.index refl in rw here refl
choice_at (c ∷ cs) rises (suc i) d l =
    let below : i < length cs = omega (arith, l) in
    let later : get_or (chosen_for cs) i 0 ≡ (get_or cs i d).transition.index = get_or-map (λ (e : Choice). e.transition.index) cs i d 0 below in
    let less : c.transition.index < get_or (chosen_for cs) i 0 = rises 0 (suc i) 0 (omega arith) (omega (arith, below, length-map cs (λ (e : Choice). e.transition.index))) in
    let other : (c.transition.index == (get_or cs i d).transition.index) ≡ false =
    ne_eqb c.transition.index (get_or cs i d).transition.index (λ (e : c.transition.index ≡ (get_or cs i d).transition.index). omega (arith, e, later, less)) in
    rw other
    (choice_at cs (λ j k e m n. rises (suc j) (suc k) e (omega (arith, m)) (omega (arith, n))) i d below)
