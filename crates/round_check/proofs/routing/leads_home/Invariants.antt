use Rattle.std.proofs.Common.{ℕ, ◌<◌, ◌≡◌, ◌≢◌}
use Rattle.teg_net.specs.Parts.{IsMember}
use Rattle.policy_rounds.specs.Policies.{step_back}
use Rattle.policy_rounds.specs.PolicyLists.{policy_of}
use Rattle.round_check.proofs.routing.leads_home.Given as goal

abbrev pub invariant-back : goal.invariant-back
invariant-back l = record {
  here : l.at ≡ step_back l.part.net.now (policy_of l.policy) l._step l.member;
  member : IsMember l.part.parts.now l.part.number l.at;
  before : (k : ℕ) → k < l._step → step_back l.part.net.now (policy_of l.policy) k l.member ≢ l.root;
}
