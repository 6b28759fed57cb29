use Rattle.std.proofs.Common.{ℕ, ◌+◌, ◌≡◌, Bool, true, false, ap, ◌∙◌, arith}
use Rattle.std.specs.Prelude.{◌↔◌}
use Rattle.std.proofs.lemmas.List.{length_push}
use Rattle.teg_net.specs.Parts.{IsMember}
use Rattle.round_check.proofs.Pushing.{pushed, marked_all}
use Rattle.round_check.proofs.policies.members.Goals as goal

pub loop-transition-preserved : goal.loop-transition-preserved
loop-transition-preserved c =
    let part = c.args.part.now in
    let h = c.loop-transition.invariant in
    rw c.in_ok-push.ensures.items
    (record {
      count = length_push c.loop-transition.marks.items c.is_member.result ∙ ap (λ (n : ℕ). n + 1) h.count;
      each = pushed (λ (t : ℕ) (b : Bool). (b ≡ true) ↔ IsMember part.parts.now part.number t)
          c.loop-transition.marks.items c.is_member.result false c.loop-transition.transition h.count h.each c.is_member.ensures;
    })

pub returns-clause-marks : goal.returns-clause-marks
returns-clause-marks c =
    let part = c.args.part.now in
    let h = c.loop-transition.invariant in
    marked_all (λ (t : ℕ). IsMember part.parts.now part.number t)
    c.loop-transition.marks.items c.loop-transition.transition h.count (λ t p. let l = p.in_range in omega (arith, l, c.loop-transition-test.false)) h.each
