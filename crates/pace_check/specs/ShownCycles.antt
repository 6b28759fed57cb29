-- What the text of cycle times shows.
use Rattle.std.specs.Prelude.{ℕ, ◌≡◌, Bool, List, Some, length}
use Rattle.teg_net.specs.declared.answers.CycleAnswer.{CycleAnswer}
use Rattle.teg_net.specs.Certificates.{IsCertificate}
use Rattle.teg_net.specs.Circuits.{IsLive}
use Rattle.teg_net.specs.GreatestRatios.{IsAnyPlace, IsGreatestRatio}
use Rattle.teg_net.specs.Nets.{NetLists}
use Rattle.teg_net.specs.PartAnswers.{ArePartAnswers}
use Rattle.teg_net.specs.Ratios.{Fraction}
use Rattle.teg_certificates.specs.BestRatios.{best_ratio_of}
use Rattle.teg_parts.specs.Partitions.{AreParts}
use Rattle.teg_text.specs.Lines.{written}
use Rattle.teg_lines.specs.CycleLines.{cycle_lines}
use Rattle.teg_lines.specs.CycleMeanings.{cycle_lists}

-- the parts of the answer are the strong parts of the net, in their order
abbrev pub HasPartsInOrder : NetLists → CycleAnswer → Type 0
HasPartsInOrder net answer =
    (inner : List Bool) × AreParts net (record { part_of = answer.part_of.items; inner = inner }) × (length answer.parts.items ≡ length inner)

-- the whole text is that of these cycle times, which are a certificate of the net: of each of its strong parts, in their order, the
-- greatest ratio, a circuit that has it, told from its lowest numbered transition on, and the greatest reduced times of the paths from
-- there, or that no circuit lies in it; and first of all the first part of greatest ratio
pub record TellsTimes (net : NetLists) (text : List ℕ) (answer : CycleAnswer) : Type 0 where
  pub certificate : IsCertificate net answer
  pub strong : HasPartsInOrder net answer
  pub parts : ArePartAnswers net answer.part_of.items answer.parts.items
  pub told : text ≡ written (cycle_lines net (cycle_lists answer))

-- the net is live, and the text tells these cycle times, of which the first is the greatest ratio over all circuits of the net
pub record IsShownTimes (net : NetLists) (text : List ℕ) (answer : CycleAnswer) : Type 0 where
  pub live : IsLive net
  pub greatest : (ratio : Fraction) × (best_ratio_of answer ≡ Some ratio) × IsGreatestRatio net IsAnyPlace ratio
  pub times : TellsTimes net text answer

-- the net is live; the text tells cycle times, of which the first is this ratio, the greatest over all circuits of the net
pub record IsShownPace (net : NetLists) (text : List ℕ) (ratio : Fraction) : Type 0 where
  pub live : IsLive net
  pub greatest : IsGreatestRatio net IsAnyPlace ratio
  pub times : (answer : CycleAnswer) × (best_ratio_of answer ≡ Some ratio) × TellsTimes net text answer
