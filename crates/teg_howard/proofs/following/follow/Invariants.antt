use Rattle.std.proofs.Common.{count_by, is_none}
use Rattle.policy_rounds.specs.PolicyLists.{policy_of}
use Rattle.teg_howard.proofs.Spreading.{Spreading}
use Rattle.teg_howard.proofs.following.follow.Given as goal

abbrev pub invariant-follow : goal.invariant-follow
invariant-follow l = Spreading l.part.net.now l.part.parts.now l.part.number (policy_of l.policy) l.root l.ratio.time l.ratio.tokens l.values.items l.waiting.items

abbrev pub decreases-follow : goal.decreases-follow
decreases-follow l = count_by is_none l.values.items
