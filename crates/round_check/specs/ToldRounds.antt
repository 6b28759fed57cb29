-- Working definitions of what a text tells, whatever rounds these are, and of how runs are told part by part.
use Rattle.std.specs.Prelude.{ℕ, ◌+◌, ◌^◌, ◌<◌, ◌≡◌, ◌∷◌, [], List, Some, length, slice_index_or, take}
use Rattle.teg_net.specs.declared.answers.PartAnswer.{PartAnswer}
use Rattle.teg_net.specs.declared.answers.PartAnswer.TheVariants.{NoCircuit}
use Rattle.teg_net.specs.declared.rounds.Round.{Round}
use Rattle.teg_net.specs.Circuits.{IsLive}
use Rattle.teg_net.specs.GreatestRatios.{IsAnyPlace, IsGreatestRatio}
use Rattle.teg_net.specs.Nets.{NetLists}
use Rattle.teg_net.specs.PartAnswers.{ArePartAnswers}
use Rattle.policy_rounds.specs.LastRounds.{AreRunsFrom, rounds_of_runs}
use Rattle.teg_certificates.specs.BestRatios.{best_ratio_of}
use Rattle.teg_lines.specs.CycleMeanings.{part_lists}
use Rattle.teg_lines.specs.RoundLines.{circuits_in}
use Rattle.pace_check.specs.ShownCycles.{HasPartsInOrder}
use Rattle.round_check.specs.OtherRounds.{IsRoundsText}
use Rattle.round_check.specs.declared.told.Told.{Told}

-- the net is live, and the text is whole that of these cycle times, which are right, and of these rounds
pub record IsTold (net : NetLists) (text : List ℕ) (told : Told) : Type 0 where
  pub live : IsLive net
  pub greatest : IsGreatestRatio net IsAnyPlace told.ratio
  pub best : best_ratio_of told.answer ≡ Some told.ratio
  pub strong : HasPartsInOrder net told.answer
  pub parts : ArePartAnswers net told.answer.part_of.items told.answer.parts.items
  pub few : length told.answer.parts.items < 2 ^ 32
  pub whole : IsRoundsText net told.answer (rounds_of_runs told.runs.items) text

-- there are rounds of this number
abbrev pub HasRounds : List (List Round) → ℕ → Type 0
HasRounds runs told = (told < length runs) × (0 < length (slice_index_or runs told []))

-- how many runs are told of the part: one where it has a circuit
abbrev pub runs_of_part : List PartAnswer → ℕ → ℕ
runs_of_part answers number = circuits_in (part_lists (slice_index_or answers number NoCircuit) ∷ [])

-- where so many runs are those of the parts before this one, those with its own are those of the parts up to it
abbrev pub GoOn : NetLists → List ℕ → List PartAnswer → List (List Round) → ℕ → ℕ → Type 0
GoOn net part_of answers runs number told =
    AreRunsFrom net part_of 0 (take number answers) (take told runs) → AreRunsFrom net part_of 0 (take (number + 1) answers) (take (told + runs_of_part answers number) runs)
