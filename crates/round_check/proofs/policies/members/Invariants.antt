use Rattle.std.proofs.Common.{ℕ, ◌<◌, ◌≡◌, length}
use Rattle.std.specs.Prelude.{◌↔◌}
use Rattle.teg_net.specs.Parts.{IsMember}
use Rattle.teg_parts.specs.Components.{IsMarked}
use Rattle.round_check.proofs.policies.members.Given as goal

abbrev pub invariant-loop-transition : goal.invariant-loop-transition
invariant-loop-transition l = record {
  count : length l.marks.items ≡ l.transition;
  each : (t : ℕ) → t < l.transition → IsMarked l.marks.items t ↔ IsMember l.part.parts.now l.part.number t;
}
