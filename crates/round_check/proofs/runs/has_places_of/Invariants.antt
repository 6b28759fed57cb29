use Rattle.std.proofs.Common.{ℕ, ◌<◌, ◌≡◌}
use Rattle.teg_net.specs.Parts.{IsMember}
use Rattle.policy_rounds.specs.PolicyLists.{policy_of}
use Rattle.round_check.proofs.runs.has_places_of.Given as goal

abbrev pub invariant-loop-member : goal.invariant-loop-member
invariant-loop-member l = (t : ℕ) → t < l.member → IsMember l.part.parts.now l.part.number t → policy_of l.own.policy.items t ≡ policy_of l.policy t
