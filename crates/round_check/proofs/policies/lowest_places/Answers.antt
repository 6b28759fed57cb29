use Rattle.std.proofs.Common.{ℕ, ◌+◌, ◌<◌, ◌≤◌, ◌≡◌, ap, ◌∙◌, arith, ⊎_elim}
use Rattle.std.proofs.lemmas.Bool.{cases_lt}
use Rattle.std.proofs.lemmas.List.{length_push, get_or_past}
use Rattle.teg_net.specs.declared.entries.PlaceId.{PlaceId}
use Rattle.policy_rounds.specs.Policies.{Enters, first_id}
use Rattle.policy_rounds.specs.PolicyRounds.{IsLowestInto}
use Rattle.round_check.proofs.Pushing.{pushed}
use Rattle.round_check.proofs.Offering.{entered_member}
use Rattle.round_check.proofs.policies.lowest_places.Goals as goal

pub loop-transition-preserved : goal.loop-transition-preserved
loop-transition-preserved c =
    let part = c.args.part.now in
    let h = c.loop-transition.invariant in
    let ps = c.loop-transition.policy.items in
    let p = c.first_into.result in
    let i = c.loop-transition.transition in
    rw c.in_ok-push.ensures.items
    (record {
      count = length_push ps p ∙ ap (λ (n : ℕ). n + 1) h.count;
      lowest = pushed (λ (t : ℕ) (x : PlaceId). (q : PlaceId) → Enters part.net.now part.parts.now part.number t q → IsLowestInto part.net.now part.parts.now part.number t x)
          ps p first_id i h.count h.lowest c.first_into.ensures.lowest;
      others = pushed (λ (t : ℕ) (x : PlaceId). ((q : PlaceId) → Enters part.net.now part.parts.now part.number t q → ⊥) → x ≡ first_id)
          ps p first_id i h.count h.others c.first_into.ensures.others;
    })

pub returns : goal.returns
returns c =
    let part = c.args.part.now in
    let h = c.loop-transition.invariant in
    let ps = c.loop-transition.policy.items in
    let i = c.loop-transition.transition in
    record {
      count = omega (arith, h.count, c.loop-transition-test.false, c.loop-transition.auto.transition-end);
      lowest = λ t p e. h.lowest t (let m = (entered_member part.net.now part.parts.now part.number t p e).in_range in omega (arith, m, c.loop-transition-test.false)) p e;
      others = λ t none. ⊎_elim (λ (k : t < i). h.others t k none) (λ (k : i ≤ t). get_or_past ps t first_id (omega (arith, k, h.count))) (cases_lt t i);
    }
