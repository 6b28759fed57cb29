-- That the text of an answer tells it, and which facts make sure of it.
use Rattle.std.specs.Prelude.{ℕ, ◌≡◌, List, length, Option, Some, None}
use Rattle.series_form.specs.NumberBounds.{IsSeries}
use Rattle.series_laws.specs.SeriesForms.{Form as SeriesForm}
use Rattle.teg_net.specs.declared.answers.CycleAnswer.{CycleAnswer}
use Rattle.teg_net.specs.declared.entries.PlaceId.{PlaceId}
use Rattle.teg_net.specs.Certificates.{IsCertificate}
use Rattle.teg_net.specs.Circuits.{IsTokenFree}
use Rattle.teg_net.specs.Nets.{NetLists, IsNet}
use Rattle.teg_report.specs.Answering.{AreOfOneNet, IsReadFrom}
use Rattle.teg_report.specs.AnswerValues.{Answer, Calc, Cycle, Live, TokenFree}
use Rattle.teg_report.specs.KeptAnswers.{IsAnswerTold}
use Rattle.teg_lines.specs.CycleMeanings.{cycle_lists}
use Rattle.teg_report.specs.Reports.{text_of}

-- each answer that is told is read back from its text, by the names of its net
abbrev pub AnswersAreRead : Type 0
AnswersAreRead = (net : Option NetLists) (answer : Answer) → IsAnswerTold net answer → IsReadFrom net answer (text_of net answer)

-- answers about one net that are told with the same text are the same
abbrev pub TextsOfAnswersDiffer : Type 0
TextsOfAnswersDiffer =
    (one two : Option NetLists) → AreOfOneNet one two → (a b : Answer) → IsAnswerTold one a → IsAnswerTold two b → text_of one a ≡ text_of two b → a ≡ b

-- the size of a net is told
abbrev pub SizesAreTold : Type 0
SizesAreTold = (net : NetLists) → IsNet net → IsAnswerTold (Some net) (Live (length net.transitions) (length net.places))

-- a circuit for whose sake a net is not live is told
abbrev pub TokenFreeIsTold : Type 0
TokenFreeIsTold = (net : NetLists) → IsNet net → (circuit : List PlaceId) → IsTokenFree net circuit → IsAnswerTold (Some net) (TokenFree circuit)

-- cycle times that are a certificate with a best part are told
abbrev pub CertificatesAreTold : Type 0
CertificatesAreTold =
    (net : NetLists) → IsNet net → (answer : CycleAnswer) (best : ℕ) → IsCertificate net answer → answer.best ≡ Some best →
    IsAnswerTold (Some net) (Cycle (cycle_lists answer) None)

-- a series is told
abbrev pub SeriesAreTold : Type 0
SeriesAreTold = (series : SeriesForm) → IsSeries series → IsAnswerTold None (Calc series)
