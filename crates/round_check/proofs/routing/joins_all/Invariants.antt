use Rattle.std.proofs.Common.{◌≡◌, List, length}
use Rattle.teg_net.specs.declared.entries.PlaceId.{PlaceId}
use Rattle.policy_rounds.specs.PolicyLists.{policy_of}
use Rattle.round_check.proofs.Joining.{Joined}
use Rattle.round_check.proofs.routing.joins_all.Given as goal

abbrev pub invariant-joins : goal.invariant-joins
invariant-joins l =
    (js : List PlaceId) × Joined l.part.net.now l.part.parts.now l.part.number (policy_of l.policy) l.root js (policy_of l.routed) l.home.items × (length js ≡ l._step)
