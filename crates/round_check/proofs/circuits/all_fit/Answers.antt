use Rattle.std.proofs.Common.{refl, arith}
use Rattle.policy_rounds.specs.PolicyLists.{policy_of}
use Rattle.round_check.proofs.Walking.{all_at_most}
use Rattle.round_check.proofs.circuits.all_fit.Goals as goal

pub returns : goal.returns
returns c =
    let part = c.args.part.now in (
      λ yes. all_at_most part.net.now part.parts.now part.number (policy_of c.args.policy.now) c.requires.policy c.args.marked.now c.args.bound
          (λ s l. c.loop-start.invariant s (omega (arith, l, c.loop-start-test.false))),
      λ all. refl,
    )
