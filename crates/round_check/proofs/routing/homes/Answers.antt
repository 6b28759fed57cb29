use Rattle.std.proofs.Common.{ℕ, ◌+◌, ◌≡◌, Bool, true, false, ap, ◌∙◌, arith}
use Rattle.std.specs.Prelude.{◌↔◌}
use Rattle.std.proofs.lemmas.List.{length_push}
use Rattle.teg_net.specs.Parts.{IsMember}
use Rattle.policy_rounds.specs.Policies.{LeadsBack}
use Rattle.policy_rounds.specs.PolicyLists.{policy_of}
use Rattle.round_check.proofs.Pushing.{pushed, marked_all}
use Rattle.round_check.proofs.routing.homes.Goals as goal

pub loop-member-preserved : goal.loop-member-preserved
loop-member-preserved c =
    let part = c.args.part.now in
    let h = c.loop-member.invariant in
    rw c.in_ok-push.ensures.items
    (record {
      count = length_push c.loop-member.home.items c.is_home.result ∙ ap (λ (n : ℕ). n + 1) h.count;
      each = pushed (λ (t : ℕ) (b : Bool). (b ≡ true) ↔ (IsMember part.parts.now part.number t × LeadsBack part.net.now (policy_of c.args.policy.now) t c.args.root))
          c.loop-member.home.items c.is_home.result false c.loop-member.member h.count h.each c.is_home.ensures;
    })

pub returns-clause-home : goal.returns-clause-home
returns-clause-home c =
    let part = c.args.part.now in
    let h = c.loop-member.invariant in
    marked_all (λ (t : ℕ). IsMember part.parts.now part.number t × LeadsBack part.net.now (policy_of c.args.policy.now) t c.args.root)
    c.loop-member.home.items c.loop-member.member h.count (λ t p. let l = p.0.in_range in omega (arith, l, c.loop-member-test.false)) h.each
