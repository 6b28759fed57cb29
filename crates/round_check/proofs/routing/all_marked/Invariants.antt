use Rattle.std.proofs.Common.{ℕ, ◌<◌}
use Rattle.teg_net.specs.Parts.{IsMember}
use Rattle.teg_parts.specs.Components.{IsMarked}
use Rattle.round_check.proofs.routing.all_marked.Given as goal

abbrev pub invariant-loop-member : goal.invariant-loop-member
invariant-loop-member l = (t : ℕ) → t < l.member → IsMember l.part.parts.now l.part.number t → IsMarked l.marked t
