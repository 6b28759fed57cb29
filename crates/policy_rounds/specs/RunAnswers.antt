-- The answer that a policy run ends in, and the limits that it keeps.
use Rattle.std.specs.Prelude.{ℕ, ◌≤◌, ◌≡◌, ⊤, List, All, map}
use Rattle.teg_net.specs.declared.rounds.Choice.{Choice}
use Rattle.teg_net.specs.declared.rounds.Round.{Round}
use Rattle.teg_net.specs.declared.answers.Potential.{Potential}
use Rattle.teg_net.specs.declared.answers.PartAnswer.{PartAnswer}
use Rattle.teg_net.specs.declared.answers.PartAnswer.TheVariants.{NoCircuit, Best}
use Rattle.teg_net.specs.Nets.{NetLists}
use Rattle.teg_net.specs.ReducedTimes.{IsMagnitudeWithin}
use Rattle.teg_net.specs.Limits.{greatest_circuit_time, most_circuit_tokens, greatest_scaled_potential}
use Rattle.policy_rounds.specs.PolicyRounds.{last_policy_round, IsPolicyRun}

-- the potential that a choice tells
abbrev pub potential_of : Choice → Potential
potential_of c = record { transition = c.transition; value = c.value }

-- the answer has the round's ratio, circuit and potentials
abbrev pub IsAnswerOf : Round → PartAnswer → Type 0
IsAnswerOf r NoCircuit = ⊥
IsAnswerOf r (Best ratio circuit potentials) = (ratio ≡ r.ratio) × (circuit.places.items ≡ r.circuit.places.items) × (potentials.items ≡ map potential_of r.choices.items)

-- the answer is that of the last round
abbrev pub IsAnswerOfLast : List Round → PartAnswer → Type 0
IsAnswerOfLast rounds answer = (d : Round) → IsAnswerOf (last_policy_round rounds d) answer

-- a policy run of the part ends in the answer
abbrev pub EndsRun : NetLists → List ℕ → ℕ → PartAnswer → Type 0
EndsRun net parts part answer = (rounds : List Round) × IsPolicyRun net parts part rounds × IsAnswerOfLast rounds answer

-- ratio and potentials keep the limits of circuits and of sums along them
abbrev pub KeepsLimits : PartAnswer → Type 0
KeepsLimits NoCircuit = ⊤
KeepsLimits (Best ratio circuit potentials) =
    (ratio.time ≤ greatest_circuit_time) × (ratio.tokens ≤ most_circuit_tokens) × All (λ v. IsMagnitudeWithin greatest_scaled_potential v.value) potentials.items
