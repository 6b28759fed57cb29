use Rattle.policy_rounds.specs.PolicyLists.{policy_of}
use Rattle.teg_howard.proofs.Spreading.{LinkedTo}
use Rattle.teg_howard.proofs.following.link_followers.Given as goal

abbrev pub invariant-loop-member : goal.invariant-loop-member
invariant-loop-member l = LinkedTo l.part.net.now l.part.parts.now l.part.number (policy_of l.policy) l.root l.highest.items l.lower.items l.member
