use Rattle.std.proofs.Common.{ℕ, ◌+◌, ◌≡◌, Bool, true, false, ap, ◌∙◌, arith}
use Rattle.std.specs.Prelude.{◌↔◌}
use Rattle.std.proofs.lemmas.List.{length_push}
use Rattle.policy_rounds.specs.Policies.{IsChanged}
use Rattle.policy_rounds.specs.PolicyLists.{policy_of}
use Rattle.round_check.proofs.Pushing.{pushed, marked_all}
use Rattle.round_check.proofs.policies.changed.Goals as goal

pub loop-transition-preserved : goal.loop-transition-preserved
loop-transition-preserved c =
    let part = c.args.part.now in
    let h = c.loop-transition.invariant in
    rw c.in_ok-push.ensures.items
    (record {
      count = length_push c.loop-transition.marks.items c.is_changed.result ∙ ap (λ (n : ℕ). n + 1) h.count;
      each = pushed (λ (t : ℕ) (b : Bool). (b ≡ true) ↔ IsChanged part.parts.now part.number (policy_of c.args.policy.now) (policy_of c.args.better.now) t)
          c.loop-transition.marks.items c.is_changed.result false c.loop-transition.transition h.count h.each c.is_changed.ensures;
    })

pub returns-clause-marks : goal.returns-clause-marks
returns-clause-marks c =
    let part = c.args.part.now in
    let h = c.loop-transition.invariant in
    marked_all (λ (t : ℕ). IsChanged part.parts.now part.number (policy_of c.args.policy.now) (policy_of c.args.better.now) t)
    c.loop-transition.marks.items c.loop-transition.transition h.count (λ t p. let l = p.0.in_range in omega (arith, l, c.loop-transition-test.false)) h.each
