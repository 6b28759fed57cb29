use Rattle.std.proofs.Common.{ℕ, ◌<◌, ◌≢◌, None}
use Rattle.teg_net.specs.Parts.{IsMember}
use Rattle.policy_rounds.specs.PolicyRounds.{choice_of_member}
use Rattle.round_check.proofs.choices.all_members.Given as goal

abbrev pub invariant-loop-transition : goal.invariant-loop-transition
invariant-loop-transition l = (t : ℕ) → t < l.transition → IsMember l.parts l.number t → choice_of_member l.choices t ≢ None
