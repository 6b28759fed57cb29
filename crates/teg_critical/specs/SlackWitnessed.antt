-- What shows the slack of a place, as the checkers of `teg_certificates` read it (chapters 2 and 3).
use Rattle.std.specs.Prelude.{IsSomeAnd}
use Rattle.teg_net.specs.declared.entries.PlaceId.{PlaceId}
use Rattle.teg_net.specs.declared.answers.CycleAnswer.{CycleAnswer}
use Rattle.teg_net.specs.Nets.{NetLists}
use Rattle.teg_net.specs.Ratios.{Fraction}
use Rattle.teg_certificates.specs.BestRatios.{best_ratio_of}
use Rattle.teg_certificates.specs.SlackWitnesses.{IsCriticalCircuit, IsRiseShown, RiseAtPlace}
use Rattle.teg_critical.specs.declared.witnesses.SlackWitness.{SlackWitness}
use Rattle.teg_critical.specs.declared.witnesses.SlackWitness.TheVariants.{NoCircuit, Critical, Rise}

-- what is handed out shows the slack of the place, where an answer on cycle times names the greatest ratio: by it `shows_no_circuit`,
-- `shows_critical` or `shows_rise` says yes
abbrev pub IsSlackWitness : NetLists → CycleAnswer → PlaceId → SlackWitness → Type 0
IsSlackWitness net answer p (NoCircuit numbers) = RiseAtPlace net numbers.items p
IsSlackWitness net answer p (Critical circuit) = IsSomeAnd (best_ratio_of answer) (λ r. IsCriticalCircuit net r p circuit.places.items)
IsSlackWitness net answer p (Rise rise) = IsSomeAnd (best_ratio_of answer) (λ r. IsRiseShown net r p rise.by rise.circuit.places.items rise.potentials.items)

-- the same at a ratio
abbrev pub IsWitnessAt : NetLists → Fraction → PlaceId → SlackWitness → Type 0
IsWitnessAt net r p (NoCircuit numbers) = RiseAtPlace net numbers.items p
IsWitnessAt net r p (Critical circuit) = IsCriticalCircuit net r p circuit.places.items
IsWitnessAt net r p (Rise rise) = IsRiseShown net r p rise.by rise.circuit.places.items rise.potentials.items
