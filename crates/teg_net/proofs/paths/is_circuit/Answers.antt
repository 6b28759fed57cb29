use Rattle.std.proofs.Common.{◌≡◌, List, [], length, ap, arith}
use Rattle.std.proofs.lemmas.Grind.{common_steps}
use Rattle.teg_net.specs.declared.entries.PlaceId.{PlaceId}
use Rattle.teg_net.specs.Nets.{NetLists}
use Rattle.teg_net.specs.Circuits.{IsCircuit, AreInRange}
use Rattle.teg_net.proofs.PathLaws.{IsPathBetween-in_range, IsPathBetween-closed}
use Rattle.teg_net.proofs.paths.is_circuit.Goals as goal

no_circuit : (net : NetLists) (ps : List PlaceId) → (AreInRange net ps → ps ≡ []) → IsCircuit net ps → ⊥
no_circuit net ps none h =
    let empty : length ps ≡ 0 = ap length (none (IsPathBetween-in_range net ps h.closed.0 h.closed.0 h.closed.1)) in
    absurd (omega (arith, h.not_empty))

pub returns-in_default-clause-is : goal.returns-in_default-clause-is
returns-in_default-clause-is c = (λ t. cc, λ h. absurd (no_circuit c.args.net.now c.args.places.now c.in_default.ensures.none h))

pub leaves_once-requires : goal.leaves_once-requires
leaves_once-requires c = IsPathBetween-in_range c.args.net.now c.args.places.now c.in-Some.start.index c.in-Some-path_end.end.index c.in-Some-path_end.ensures.end

pub returns-else-end-start-clause-is : goal.returns-else-end-start-clause-is
returns-else-end-start-clause-is c = (
  λ t. absurd (grind (arith, common_steps)),
  λ h. let same = IsPathBetween-closed c.args.net.now c.args.places.now h.closed.0 c.in-Some.start.index c.in-Some-path_end.end.index
      h.closed.1 c.in-Some.ensures.start c.in-Some-path_end.ensures.end in grind (arith, common_steps),
)

pub returns-then-end-start-clause-in_range : goal.returns-then-end-start-clause-in_range
returns-then-end-start-clause-in_range c = λ t. IsPathBetween-in_range c.args.net.now c.args.places.now c.in-Some.start.index c.in-Some-path_end.end.index c.in-Some-path_end.ensures.end
