-- What these lines tell is read back from their text, and a certificate with a best part can be told.
use Rattle.std.specs.Prelude.{ℕ, ◌≡◌, List, [], ◌∷◌, ◌++◌, All, IfSome, Option, Some}
use Rattle.teg_net.specs.declared.answers.CycleAnswer.{CycleAnswer}
use Rattle.teg_net.specs.declared.entries.PlaceId.{PlaceId}
use Rattle.teg_net.specs.Certificates.{IsCertificate}
use Rattle.teg_net.specs.Circuits.{AreInRange}
use Rattle.teg_net.specs.Nets.{NetLists, IsNet}
use Rattle.teg_text.specs.Lines.{written}
use Rattle.teg_text.specs.WordReading.{lines_in}
use Rattle.teg_lines.specs.CircuitLines.{token_free_in, token_free_line}
use Rattle.teg_lines.specs.CycleLines.{CycleLists, IsCycleTold, cycle_in, cycle_lines}
use Rattle.teg_lines.specs.CycleMeanings.{cycle_lists}
use Rattle.teg_lines.specs.RoundLines.{RoundLists, AreRoundsTold, IsRunKept, rounds_in_lines, runs_lines, told_runs}

-- cycle times, and rounds where they are given, are read back from their text by the names of the net
abbrev pub CycleTimesAreRead : Type 0
CycleTimesAreRead =
    (net : NetLists) (answer : CycleLists) (rounds : Option (List (List RoundLists))) → IsNet net → IsCycleTold net answer →
    AreRoundsTold net answer.parts rounds → IfSome rounds (λ runs. All IsRunKept runs) →
    let lines = lines_in (written (cycle_lines net answer ++ runs_lines net (told_runs answer.parts rounds))) in
    (cycle_in net lines ≡ answer) × (rounds_in_lines net lines ≡ rounds)

-- the places of a circuit without tokens are read back from its text
abbrev pub TokenFreeCircuitsAreRead : Type 0
TokenFreeCircuitsAreRead =
    (net : NetLists) (circuit : List PlaceId) → IsNet net → AreInRange net circuit →
    token_free_in net (lines_in (written (token_free_line net circuit ∷ []))) ≡ circuit

-- a certificate with a best part can be told
abbrev pub CertificatesCanBeTold : Type 0
CertificatesCanBeTold = (net : NetLists) (answer : CycleAnswer) (best : ℕ) → IsCertificate net answer → answer.best ≡ Some best → IsCycleTold net (cycle_lists answer)
