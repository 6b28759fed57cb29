-- What is told of a net without a circuit, and what the rounds of policy iteration add to the cycle times.
use Rattle.std.specs.Prelude.{ℕ, ◌≡◌, ◌++◌, List, Option}
use Rattle.teg_net.specs.Circuits.{IsLive}
use Rattle.teg_net.specs.declared.answers.CycleAnswer.{CycleAnswer}
use Rattle.teg_net.specs.GreatestRatios.{HasNoCircuit, IsAnyPlace}
use Rattle.teg_net.specs.Nets.{NetLists, IsNet}
use Rattle.teg_report.specs.teg_lines.RoundLines.{RoundLists}
use Rattle.teg_outcome.specs.declared.outcome.Verdict.{Verdict}
use Rattle.teg_pace_commands.specs.Cycle.{IsCycleAnswer, SaysCycle, SaysRounds}
use Rattle.teg_pace_commands.specs.CycleTexts.{cycle_text, no_circuit_text}

-- of a net without a circuit the text of its cycle times is that it has none, with rounds or without
abbrev pub NoCircuitIsTold : Type 0
NoCircuitIsTold =
    (net : NetLists) (answer : CycleAnswer) (runs : Option (List (List RoundLists))) → IsCycleAnswer net answer → HasNoCircuit net IsAnyPlace →
    cycle_text net answer runs ≡ no_circuit_text

-- what is said of a live net with its rounds is what is said without them, and then the rounds
abbrev pub RoundsFollowTimes : Type 0
RoundsFollowTimes =
    (net : NetLists) (one other : Verdict) (times text : List ℕ) → IsNet net → IsLive net → SaysCycle net one times → SaysRounds net other text →
    (rounds : List ℕ) × (text ≡ times ++ rounds)
