-- The pace of a net, and a circuit that holds it (chapter 2).
use Rattle.std.specs.Prelude.{◌*◌, ◌≡◌, Option, Some, None, ⊤}
use Rattle.teg_net.specs.declared.circuits.Circuit.{Circuit}
use Rattle.teg_net.specs.Nets.{NetLists}
use Rattle.teg_net.specs.Ratios.{Fraction}
use Rattle.teg_net.specs.Circuits.{IsCircuit, time_of, tokens_of}
use Rattle.teg_net.specs.GreatestRatios.{IsGreatestRatio, HasNoCircuit, IsAnyPlace}
use Rattle.pace_calls.specs.declared.paces.PaceWithCircuit.{PaceWithCircuit}

-- the greatest ratio of time to tokens over all circuits of the net, or none where it has no circuit
abbrev pub IsPace : NetLists → Option Fraction → Type 0
IsPace net None = HasNoCircuit net IsAnyPlace
IsPace net (Some r) = IsGreatestRatio net IsAnyPlace r

-- the circuit has this ratio, or there is neither a ratio nor a circuit
abbrev pub IsCircuitOfPace : NetLists → Option Fraction → Option Circuit → Type 0
IsCircuitOfPace net None None = ⊤
IsCircuitOfPace net None (Some circuit) = ⊥
IsCircuitOfPace net (Some r) None = ⊥
IsCircuitOfPace net (Some r) (Some circuit) =
    IsCircuit net circuit.places.items × (time_of net circuit.places.items * r.tokens ≡ r.time * tokens_of net circuit.places.items)

-- the pace of the net and a circuit that has it, or none where it has no circuit
abbrev pub IsPaceWithCircuit : NetLists → Option PaceWithCircuit → Type 0
IsPaceWithCircuit net None = IsPace net None
IsPaceWithCircuit net (Some pace) = IsPace net (Some pace.ratio) × IsCircuitOfPace net (Some pace.ratio) (Some pace.bottleneck)
