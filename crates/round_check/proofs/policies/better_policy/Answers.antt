use Rattle.std.proofs.Common.{ℕ, ◌+◌, ap, ◌∙◌, arith}
use Rattle.std.proofs.lemmas.List.{length_push}
use Rattle.teg_net.specs.declared.entries.PlaceId.{PlaceId}
use Rattle.policy_rounds.specs.Policies.{first_id}
use Rattle.policy_rounds.specs.PolicyLists.{policy_of}
use Rattle.round_check.specs.Offers.{IsBetterAt, values_at}
use Rattle.round_check.proofs.Pushing.{pushed}
use Rattle.round_check.proofs.Stepping.{improvement}
use Rattle.round_check.proofs.policies.better_policy.Goals as goal

pub loop-transition-preserved : goal.loop-transition-preserved
loop-transition-preserved c =
    let part = c.args.part.now in
    let h = c.loop-transition.invariant in
    rw c.in_ok-push.ensures.items
    (record {
      count = length_push c.loop-transition.better.items c.better_into.result ∙ ap (λ (n : ℕ). n + 1) h.count;
      each = pushed (λ (t : ℕ) (p : PlaceId). IsBetterAt part.net.now part.parts.now part.number c.args.ratio.time c.args.ratio.tokens (values_at c.args.values.now) t
          (policy_of c.args.policy.now t) p)
          c.loop-transition.better.items c.better_into.result first_id c.loop-transition.transition h.count h.each c.better_into.ensures;
    })

pub returns-clause-improves : goal.returns-clause-improves
returns-clause-improves c =
    let part = c.args.part.now in
    let h = c.loop-transition.invariant in
    improvement part.net.now part.parts.now part.number c.args.ratio.time c.args.ratio.tokens (values_at c.args.values.now)
    (policy_of c.args.policy.now) (policy_of c.loop-transition.better.items) (λ t l. h.each t (omega (arith, l, c.loop-transition-test.false)))
