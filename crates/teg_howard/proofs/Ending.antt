-- Why the rounds end.
use Rattle.std.proofs.Common.{ℕ, ◌+◌, ◌*◌, ◌<◌, List, sym, subst, arith, ⊎_elim}
use Rattle.std.specs.Prelude.{pos, ◌+ℤ◌, ◌≤ℤ◌}
use Rattle.std.proofs.lemmas.Int.{ints}
use Rattle.teg_net.specs.declared.entries.PlaceId.{PlaceId}
use Rattle.teg_net.specs.Nets.{NetLists}
use Rattle.teg_net.specs.declared.rounds.Round.{Round}
use Rattle.teg_howard.specs.declared.settling.RoundState.{RoundState}
use Rattle.teg_howard.specs.declared.iteration.Iteration.{Iteration}
use Rattle.policy_rounds.specs.PolicyRounds.{potential}
use Rattle.teg_net.specs.ReducedTimes.{IsMagnitudeWithin}
use Rattle.teg_net.specs.Limits.{greatest_circuit_time, most_circuit_tokens}
use Rattle.teg_howard.specs.RoundStates.{IsRoundState, RisesEach, IsIteration, GoesOn}
use Rattle.teg_howard.proofs.Measure.{level, level_rises, level_bound, height, height_rises, height_bound, remaining, falls_by_ratio, falls_by_sum}

abbrev V : ℕ
V = 400000000000000000

-- what is left of ratio and potentials
pub left_of : Round → ℕ
left_of r = remaining (greatest_circuit_time * most_circuit_tokens * most_circuit_tokens) (400 * (V + V)) (level most_circuit_tokens r.ratio.time r.ratio.tokens) (height V (potential r) 400)

potential_within : (net : NetLists) (parts : List ℕ) (part : ℕ) (policy : List PlaceId) (st : RoundState) → IsRoundState net parts part policy st → (t : ℕ) → IsMagnitudeWithin V (potential st.round t)
potential_within net parts part policy st h t = subst (IsMagnitudeWithin V) (sym (h.potential_is t)) (h.within t)

pub falls : (net : NetLists) (parts : List ℕ) (part : ℕ) (old new : Iteration) (before : Round) → IsIteration net parts part old
    → GoesOn net parts part old new before → left_of new.state.round < left_of old.state.round
unfolding left_of
falls net parts part old new before stands goes =
    let st : RoundState = old.state in
    let next : RoundState = new.state in
    let h = stands.standing in
    let g = goes.standing.standing in
    ⊎_elim
    (λ (r : st.round.ratio.time * next.round.ratio.tokens < next.round.ratio.time * st.round.ratio.tokens).
    falls_by_ratio (greatest_circuit_time * most_circuit_tokens * most_circuit_tokens) (400 * (V + V))
    (level most_circuit_tokens st.round.ratio.time st.round.ratio.tokens) (height V (potential st.round) 400)
    (level most_circuit_tokens next.round.ratio.time next.round.ratio.tokens) (height V (potential next.round) 400)
    (level_rises most_circuit_tokens st.round.ratio.time st.round.ratio.tokens next.round.ratio.time next.round.ratio.tokens
    h.ratio.terms.some g.ratio.terms.some h.small.tokens_in g.small.tokens_in r)
    (level_bound most_circuit_tokens greatest_circuit_time next.round.ratio.time next.round.ratio.tokens g.small.time_in))
    (λ (s : RisesEach st.round next.round).
    let low = potential_within net parts part old.policy.items st h s.higher.0 in
    let lifted : pos 0 ≤ℤ (pos V +ℤ potential st.round s.higher.0) = let l = low.low in omega (arith, ints) in
    subst (λ x. remaining (greatest_circuit_time * most_circuit_tokens * most_circuit_tokens) (400 * (V + V))
    (level most_circuit_tokens x.time x.tokens) (height V (potential next.round) 400) < remaining
    (greatest_circuit_time * most_circuit_tokens * most_circuit_tokens) (400 * (V + V))
    (level most_circuit_tokens st.round.ratio.time st.round.ratio.tokens) (height V (potential st.round) 400)) (sym s.same)
    (falls_by_sum (greatest_circuit_time * most_circuit_tokens * most_circuit_tokens) (400 * (V + V))
    (level most_circuit_tokens st.round.ratio.time st.round.ratio.tokens) (height V (potential st.round) 400) (height V (potential next.round) 400)
    (height_rises V (potential st.round) (potential next.round) 400 s.higher.0 (λ u l. s.no_lower u) s.higher.1 s.higher.2 lifted)
    (height_bound V (potential next.round) 400 (λ t l. (potential_within net parts part new.policy.items next g t).high))))
    goes.rises
