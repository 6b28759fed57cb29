-- What is said of the circuits of a net: its parts, the greatest ratio of each and of the net, and the rounds that led to them.
use Rattle.std.specs.Prelude.{ℕ, ◌≡◌, Bool, List, All, None, length, Some, map}
use Rattle.policy_rounds.specs.LastRounds.{AreLastOfRuns, AreRunsFrom}
use Rattle.policy_rounds.specs.RunAnswers.{KeepsLimits}
use Rattle.teg_net.specs.declared.answers.CycleAnswer.{CycleAnswer}
use Rattle.teg_net.specs.declared.rounds.Round.{Round}
use Rattle.teg_net.specs.GreatestRatios.{IsCycleTime, IsFirstGreatest}
use Rattle.teg_net.specs.Nets.{NetLists}
use Rattle.teg_net.specs.PartAnswers.{ArePartAnswers}
use Rattle.teg_parts.specs.Partitions.{AreParts}
use Rattle.teg_outcome.specs.declared.outcome.Verdict.{Verdict}
use Rattle.teg_outcome.specs.declared.outcome.Verdict.TheVariants.{Done as VerdictDone}
use Rattle.teg_pace_commands.specs.CycleTexts.{cycle_text}
use Rattle.teg_report.specs.teg_lines.CycleMeanings.{round_lists}
use Rattle.teg_report.specs.teg_lines.RoundLines.{IsRunKept}

-- the numbers are those of the strong parts of the net in their order, with an answer for each
abbrev pub HasStrongParts : NetLists → CycleAnswer → Type 0
HasStrongParts net answer =
    (inner : List Bool) × AreParts net (record { part_of = answer.part_of.items; inner = inner }) × (length answer.parts.items ≡ length inner)

-- the cycle times of a net: of each of its strong parts the greatest ratio, a circuit that has it and the greatest reduced times of paths
-- as potentials, within the limits of circuits, or that no circuit lies in it; the first part of greatest ratio, which is the greatest of the
-- net, or none where the net has no circuit
pub record IsCycleAnswer (net : NetLists) (answer : CycleAnswer) : Type 0 where
  pub strong : HasStrongParts net answer
  pub parts : ArePartAnswers net answer.part_of.items answer.parts.items
  pub limits : All KeepsLimits answer.parts.items
  pub first : IsFirstGreatest answer.parts.items answer.best
  pub of_net : IsCycleTime net answer.parts.items answer.best

-- of each part with a circuit a policy run that ends in its answer, in order
abbrev pub AreRuns : NetLists → CycleAnswer → List (List Round) → Type 0
AreRuns net answer runs = AreRunsFrom net answer.part_of.items 0 answer.parts.items runs

-- of each part with a circuit the answer is that of the last round of its policy run
abbrev pub IsOfLastRounds : NetLists → CycleAnswer → Type 0
IsOfLastRounds net answer = AreLastOfRuns net answer.part_of.items answer.parts.items

-- of a live net the cycle times are said, each with what the last round of its part has
abbrev pub SaysCycle : NetLists → Verdict → List ℕ → Type 0
SaysCycle net verdict text =
    (verdict ≡ VerdictDone)
    × ((answer : CycleAnswer) × IsCycleAnswer net answer × IsOfLastRounds net answer × (text ≡ cycle_text net answer None))

-- of a live net the cycle times are said, and the rounds that led to them
abbrev pub SaysRounds : NetLists → Verdict → List ℕ → Type 0
SaysRounds net verdict text =
    (verdict ≡ VerdictDone)
    × ((answer : CycleAnswer) × (runs : List (List Round)) × IsCycleAnswer net answer × AreRuns net answer runs × All IsRunKept (map (map round_lists) runs)
    × (text ≡ cycle_text net answer (Some (map (map round_lists) runs))))
