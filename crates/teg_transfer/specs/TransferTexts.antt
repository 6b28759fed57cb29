-- The text of the times from the inputs of a net to its outputs, and working definitions of one that is written input by input.
use Rattle.std.specs.Prelude.{ℕ, ◌≡◌, ◌++◌, List, All, map}
use Rattle.std.specs.List.{flat_map}
use Rattle.teg_net.specs.declared.entries.TransitionId.{TransitionId}
use Rattle.teg_net.specs.Nets.{NetLists, IsInput}
use Rattle.teg_report.specs.AnswerMeanings.{times_from}
use Rattle.teg_report.specs.declared.answer.TransferFrom.{TransferFrom}
use Rattle.teg_report.specs.SettledTexts.{AreTimesKept, TimesFrom, from_lines, transfer_lines}
use Rattle.teg_report.specs.teg_text.Lines.{written}
use Rattle.teg_transfer.specs.TimesFromInputs.{AreTimesFrom, IsTimesFrom}

-- the text of the times from each input to each output, of numbers that have the bits of their types
abbrev pub IsTransferText : NetLists → ℕ → List ℕ → Type 0
IsTransferText net limit text = (times : List TimesFrom) × AreTimesFrom net limit times × All AreTimesKept times × (text ≡ written (transfer_lines net times))

-- behind what stood there stand the lines of the times from this input
abbrev pub IsToldBehind : NetLists → ℕ → TransitionId → List ℕ → List ℕ → Type 0
IsToldBehind net limit input before text =
    (times : TimesFrom) × (times.from ≡ input) × IsTimesFrom net limit times × AreTimesKept times × (text ≡ before ++ written (from_lines net times))

-- behind the head stand the lines of the times from these inputs, one after another
pub record AreToldBehind (net : NetLists) (limit : ℕ) (inputs : List TransitionId) (head text : List ℕ) : Type 0 where
  pub times : List TimesFrom
  pub froms : map (λ from. from.from) times ≡ inputs
  pub each : All (IsTimesFrom net limit) times
  pub kept : All AreTimesKept times
  pub told : text ≡ head ++ flat_map (λ from. written (from_lines net from)) times

-- these are times from inputs
pub record AreInputTimes (net : NetLists) (limit : ℕ) (all : List TransferFrom) : Type 0 where
  pub inputs : All (λ from. IsInput net from.from.index) all
  pub each : All (λ from. IsTimesFrom net limit (times_from from)) all
