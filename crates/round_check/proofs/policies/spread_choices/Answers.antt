use Rattle.std.proofs.Common.{ℕ, ◌+◌, ◌≡◌, ap, ◌∙◌, arith, rules}
use Rattle.std.specs.Prelude.{ℤ, pos}
use Rattle.std.proofs.lemmas.Int.{to_z-of_z}
use Rattle.std.proofs.lemmas.List.{length_push}
use mir.Val.{SFits, to_z, of_z}
use mir.Syntax.{w128}
use Rattle.teg_net.specs.declared.entries.PlaceId.{PlaceId}
use Rattle.policy_rounds.specs.Policies.{first_id}
use Rattle.policy_rounds.specs.PolicyRounds.{choice_of_member, chosen_place, value_in}
use Rattle.round_check.proofs.Pushing.{pushed}
use Rattle.round_check.proofs.Offering.{spread_places, spread_values}
use Rattle.round_check.proofs.policies.spread_choices.Goals as goal

pub loop-transition-preserved : goal.loop-transition-preserved
loop-transition-preserved c =
    let h = c.loop-transition.invariant in
    let cs = c.args.choices.now in
    let z = c.value_for.result in
    let fits : SFits w128 z = search rules in
    let same : to_z w128 (of_z w128 z) ≡ z = to_z-of_z w128 z fits in
    rw (c.in_ok-push.ensures.items, c.in_ok-push-2.ensures.items, same)
    (record {
      count_places = length_push c.loop-transition.policy.items c.place_for.result ∙ ap (λ (n : ℕ). n + 1) h.count_places;
      count_values = length_push c.loop-transition.values.items z ∙ ap (λ (n : ℕ). n + 1) h.count_values;
      places = pushed (λ (t : ℕ) (p : PlaceId). p ≡ chosen_place (choice_of_member cs t)) c.loop-transition.policy.items c.place_for.result first_id
          c.loop-transition.transition h.count_places h.places c.place_for.ensures;
      values = pushed (λ (t : ℕ) (v : ℤ). v ≡ value_in (choice_of_member cs t)) c.loop-transition.values.items z (pos 0)
          c.loop-transition.transition h.count_values h.values c.value_for.ensures;
    })

pub returns : goal.returns
returns c =
    let h = c.loop-transition.invariant in
    let cs = c.args.choices.now in
    record {
      count_places = omega (arith, h.count_places, c.loop-transition-test.false, c.loop-transition.auto.transition-end);
      count_values = omega (arith, h.count_values, c.loop-transition-test.false, c.loop-transition.auto.transition-end);
      places = spread_places cs c.args.count c.loop-transition.transition c.loop-transition.policy.items c.requires (omega (arith, c.loop-transition-test.false)) h.count_places h.places;
      values = spread_values cs c.args.count c.loop-transition.transition c.loop-transition.values.items c.requires (omega (arith, c.loop-transition-test.false)) h.count_values h.values;
    }
