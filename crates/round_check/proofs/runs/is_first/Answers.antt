use Rattle.round_check.proofs.Exactly.{first_made}
use Rattle.round_check.proofs.Stepping.{lowest_policy, first_is}
use Rattle.round_check.proofs.runs.is_first.Goals as goal

pub is_made_of-requires-clause-policy : goal.is_made_of-requires-clause-policy
is_made_of-requires-clause-policy c =
    let part = c.args.part.now in
    rw c.deref.ensures.value (lowest_policy part.net.now part.parts.now part.number c.args.round.now c.in_ok-policy.policy.items c.requires c.in_ok-policy.ensures)

pub returns : goal.returns
returns c =
    let part = c.args.part.now in
    let made = rw (c.deref.ensures.value, c.deref-2.ensures.value) at c.in_ok-is_first.ensures in (
      λ yes. first_is part.net.now part.parts.now part.number c.args.round.now c.in_ok-policy.policy.items c.in_ok-everywhere.everywhere.items c.requires c.in_ok-policy.ensures
          c.in_ok-everywhere.ensures.marks (made.0 yes),
      λ h. made.1
          (first_made part.net.now part.parts.now part.number c.args.round.now c.in_ok-policy.policy.items c.in_ok-everywhere.everywhere.items c.in_ok-policy.ensures
          c.in_ok-everywhere.ensures.marks h),
    )
