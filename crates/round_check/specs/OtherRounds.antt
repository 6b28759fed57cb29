-- Texts that tell other rounds than those of the net, and by which line.
use Rattle.std.specs.Prelude.{ℕ, ◌+◌, ◌<◌, ◌≡◌, ◌≢◌, ◌⊎◌, ◌++◌, List, [], All, Some, codes, length, map, slice_index_or, take}
use Rattle.std.specs.Fmt.{decimal}
use Rattle.std.specs.Str.Lines.{lines}
use Rattle.teg_net.specs.declared.answers.CycleAnswer.{CycleAnswer}
use Rattle.teg_net.specs.declared.answers.PartAnswer.{PartAnswer}
use Rattle.teg_net.specs.declared.answers.PartAnswer.TheVariants.{NoCircuit}
use Rattle.teg_net.specs.declared.rounds.Round.{Round}
use Rattle.teg_net.specs.Certificates.{IsCertificate}
use Rattle.teg_net.specs.Circuits.{IsLive}
use Rattle.teg_net.specs.Nets.{NetLists}
use Rattle.teg_net.specs.Ratios.{Fraction}
use Rattle.policy_rounds.specs.LastRounds.{AreRunsFrom}
use Rattle.teg_certificates.specs.BestRatios.{best_ratio_of}
use Rattle.teg_text.specs.Lines.{written}
use Rattle.teg_lines.specs.CycleLines.{cycle_lines}
use Rattle.teg_lines.specs.CycleMeanings.{cycle_lists, part_lists, round_lists}
use Rattle.teg_lines.specs.RoundLines.{AreRunsTold, IsRunKept, runs_lines, told_runs}
use Rattle.round_check.specs.Rounds.{AreBegun}
use Rattle.round_check.specs.ShownRounds.{EndsIn}
use Rattle.round_check.specs.declared.refuted.OtherRound.{OtherRound}

-- the whole text is that of these cycle times, which are a certificate of the net that tells a ratio, and behind them of these rounds: one or
-- more for each part with a circuit, in order, of places and transitions of the net
pub record IsRoundsText (net : NetLists) (answer : CycleAnswer) (runs : List (List Round)) (text : List ℕ) : Type 0 where
  pub certificate : IsCertificate net answer
  pub named : (ratio : Fraction) × (best_ratio_of answer ≡ Some ratio)
  pub rounds : AreRunsTold net (map part_lists answer.parts.items) (map (map round_lists) runs)
  pub kept : All IsRunKept (map (map round_lists) runs)
  pub told : text ≡ written (cycle_lines net (cycle_lists answer) ++ runs_lines net (told_runs (cycle_lists answer).parts (Some (map (map round_lists) runs))))

-- of the rounds of a part, of which this is told, this one is the first that is another than that of its run: those before it begin a policy
-- run of the part, and with it they begin none, or it is the last and they are no run that ends in what is told
pub record IsOtherRound (net : NetLists) (part_of : List ℕ) (part : ℕ) (answer : PartAnswer) (rounds : List Round) (k : ℕ) : Type 0 where
  pub within : k < length rounds
  pub before : AreBegun net part_of part rounds k
  pub other : (AreBegun net part_of part rounds (k + 1) → ⊥) ⊎ ((k + 1 ≡ length rounds) × (EndsIn net part_of part answer rounds → ⊥))

-- the part has a circuit, so many runs are told before its own, and this round of its own is the first that is another
pub record IsOtherOf (net : NetLists) (part_of : List ℕ) (answers : List PartAnswer) (runs : List (List Round)) (part told k : ℕ) : Type 0 where
  pub circuit : slice_index_or answers part NoCircuit ≢ NoCircuit
  pub run : told < length runs
  pub round : IsOtherRound net part_of part (slice_index_or answers part NoCircuit) (slice_index_or runs told []) k

-- this is so, and the runs before are those of the parts before
pub record IsOtherAt (net : NetLists) (part_of : List ℕ) (answers : List PartAnswer) (runs : List (List Round)) (part k : ℕ) : Type 0 where
  pub told : ℕ
  pub part_in : part < length answers
  pub before : AreRunsFrom net part_of 0 (take part answers) (take told runs)
  pub other : IsOtherOf net part_of answers runs part told k

-- the net is live, the whole text is that of these cycle times and rounds, and this round of this part is the first that is another
pub record IsOtherText (net : NetLists) (answer : CycleAnswer) (runs : List (List Round)) (text : List ℕ) (part k : ℕ) : Type 0 where
  pub live : IsLive net
  pub whole : IsRoundsText net answer runs text
  pub at : IsOtherAt net answer.part_of.items answer.parts.items runs part k

-- with what the first line of a round begins; parts and rounds are numbered from 1 on
abbrev pub head_of_round : ℕ → ℕ → List ℕ
head_of_round part k = codes "part " ++ (decimal (part + 1) ++ (codes " round " ++ (decimal (k + 1) ++ codes " ratio ")))

-- the line begins with this
abbrev pub BeginsSo : List ℕ → List ℕ → Type 0
BeginsSo head line = take (length head) line ≡ head

-- the line of this number is the first of them that does
pub record IsFirstSo (head : List ℕ) (lines : List (List ℕ)) (i : ℕ) : Type 0 where
  pub within : i < length lines
  pub begins : BeginsSo head (slice_index_or lines i [])
  pub before : (j : ℕ) → j < i → BeginsSo head (slice_index_or lines j []) → ⊥

-- the net is live, the text tells such rounds, and the line is the first of the round
abbrev pub TellsOther : NetLists → List ℕ → OtherRound → Type 0
TellsOther net text other =
    ((answer : CycleAnswer) × (runs : List (List Round)) × IsOtherText net answer runs text other.part other.round)
    × IsFirstSo (head_of_round other.part other.round) (lines text) other.line
