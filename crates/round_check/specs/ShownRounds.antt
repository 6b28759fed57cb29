-- What the text of cycle times with their rounds shows.
use Rattle.std.specs.Prelude.{ℕ, ◌≡◌, ◌++◌, List, All, Some, map}
use Rattle.teg_net.specs.declared.answers.CycleAnswer.{CycleAnswer}
use Rattle.teg_net.specs.declared.answers.PartAnswer.{PartAnswer}
use Rattle.teg_net.specs.declared.rounds.Round.{Round}
use Rattle.teg_net.specs.Certificates.{IsCertificate}
use Rattle.teg_net.specs.Circuits.{IsLive}
use Rattle.teg_net.specs.GreatestRatios.{IsAnyPlace, IsGreatestRatio}
use Rattle.teg_net.specs.Nets.{NetLists}
use Rattle.teg_net.specs.PartAnswers.{ArePartAnswers}
use Rattle.teg_net.specs.Ratios.{Fraction}
use Rattle.policy_rounds.specs.PolicyRounds.{IsPolicyRun}
use Rattle.policy_rounds.specs.RunAnswers.{IsAnswerOfLast, KeepsLimits}
use Rattle.policy_rounds.specs.LastRounds.{AreRunsFrom}
use Rattle.teg_certificates.specs.BestRatios.{best_ratio_of}
use Rattle.teg_text.specs.Lines.{written}
use Rattle.teg_lines.specs.CycleLines.{cycle_lines}
use Rattle.teg_lines.specs.CycleMeanings.{cycle_lists, round_lists}
use Rattle.teg_lines.specs.RoundLines.{IsRunKept, runs_lines, told_runs}
use Rattle.pace_check.specs.ShownCycles.{HasPartsInOrder}

-- the rounds are a policy run of the part that ends in its answer
abbrev pub EndsIn : NetLists → List ℕ → ℕ → PartAnswer → List Round → Type 0
EndsIn net part_of part answer rounds = IsPolicyRun net part_of part rounds × IsAnswerOfLast rounds answer

-- the whole text is that of these cycle times, which are a certificate of the net, as those without rounds are told, within the limits of
-- circuits, and then of the policy runs of the parts that have a circuit, in order, each of which ends in the answer of its part
pub record TellsRounds (net : NetLists) (text : List ℕ) (answer : CycleAnswer) (runs : List (List Round)) : Type 0 where
  pub certificate : IsCertificate net answer
  pub strong : HasPartsInOrder net answer
  pub parts : ArePartAnswers net answer.part_of.items answer.parts.items
  pub limits : All KeepsLimits answer.parts.items
  pub runs_told : AreRunsFrom net answer.part_of.items 0 answer.parts.items runs
  pub kept : All IsRunKept (map (map round_lists) runs)
  pub told : text ≡ written (cycle_lines net (cycle_lists answer) ++ runs_lines net (told_runs (cycle_lists answer).parts (Some (map (map round_lists) runs))))

-- the net is live; the text tells cycle times, of which the first is this ratio, the greatest over all circuits of the net, and the
-- rounds that led to them
pub record IsShownRounds (net : NetLists) (text : List ℕ) (ratio : Fraction) : Type 0 where
  pub live : IsLive net
  pub greatest : IsGreatestRatio net IsAnyPlace ratio
  pub rounds : (answer : CycleAnswer) × (runs : List (List Round)) × (best_ratio_of answer ≡ Some ratio) × TellsRounds net text answer runs
