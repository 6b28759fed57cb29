-- The text of an answer about endless due dates, and that it tells the answer.
use Rattle.std.specs.Prelude.{ℕ, ◌<◌, ◌≡◌, ◌^◌, List, [], ◌∷◌, ◌++◌, length, map, codes, All, Result, Ok, Err, ⊤}
use Rattle.std.specs.List.{zip}
use Rattle.std.specs.Fmt.{decimal, signed_decimal}
use Rattle.forever_laws.specs.series_laws.SeriesForms.{Form}
use Rattle.series_form.specs.NumberBounds.{IsSeries}
use Rattle.teg_net.specs.Nets.{NetLists, IsNet}
use Rattle.teg_text.specs.Faults.{row_line}
use Rattle.teg_text.specs.Lines.{phrase, written}
use Rattle.teg_text.specs.WordsOfNames.{name_of_transition}
use Rattle.teg_text.specs.ValueWords.{date_word}
use Rattle.endless_due.specs.declared.refusal.EndlessRefusal.{EndlessRefusal}
use Rattle.endless_due.specs.declared.refusal.EndlessRefusal.TheVariants.{BadRow, UnknownTransition, NotDue, RepeatedDue, OutOfRange, Falls, OutOfMemory as NoRowRoom}
use Rattle.teg_forever.specs.declared.releases.Release.{Release}
use Rattle.teg_forever.specs.declared.releases.Release.TheVariants.{Free, Latest}
use Rattle.teg_forever.specs.declared.releases.ForeverRefusal.{ForeverRefusal}
use Rattle.teg_forever.specs.declared.releases.ForeverRefusal.TheVariants.{Late, TooLong, TooWide, OutOfMemory}
use Rattle.teg_forever.specs.LatestReleases.{inputs_of}

-- ---- lines

-- a series: its values, its period and its step
abbrev pub series_words : Form → List (List ℕ)
series_words series = map date_word series.values ++ codes "period" ∷ decimal series.period ∷ codes "step" ∷ signed_decimal series.step ∷ []

-- the release of an input: `free`, or the values of its series, its period and its step
abbrev pub release_line : NetLists → ℕ → Release → List (List ℕ)
release_line net u Free = codes "input" ∷ name_of_transition net (record { index = u }) ∷ codes "free" ∷ []
release_line net u (Latest series) = codes "input" ∷ name_of_transition net (record { index = u }) ∷ series_words series

-- a line for each of these inputs with its release
abbrev pub endless_lines_of : NetLists → List ℕ → List Release → List (List (List ℕ))
endless_lines_of net inputs releases = map (λ p. release_line net p.0 p.1) (zip inputs releases)

-- the releases of the inputs in order
abbrev pub release_lines : NetLists → List Release → List (List (List ℕ))
release_lines net releases = phrase (codes "latest inputs forever") ∷ endless_lines_of net (inputs_of net) releases

-- why the releases are not told; nothing is told of want of memory
abbrev pub forever_line : NetLists → ForeverRefusal → List (List ℕ)
forever_line net (Late t number due least) =
    codes "late" ∷ name_of_transition net t ∷ decimal number ∷ codes "due" ∷ decimal due ∷ codes "least" ∷ decimal least ∷ []
forever_line net (TooLong u) = codes "too" ∷ codes "long:" ∷ codes "input" ∷ name_of_transition net u ∷ []
forever_line net (TooWide u row) =
    codes "too" ∷ codes "long:" ∷ codes "input" ∷ name_of_transition net u ∷ codes "at" ∷ codes "due" ∷ codes "row" ∷ decimal row ∷ []
forever_line net OutOfMemory = []

-- why a file has no endless due dates; nothing is told of want of memory
abbrev pub endless_line : EndlessRefusal → List (List ℕ)
endless_line (BadRow row) = row_line (codes "due") row (phrase (codes "is not an endless due row"))
endless_line (UnknownTransition row) = row_line (codes "due") row (phrase (codes "unknown transition"))
endless_line (NotDue row) = row_line (codes "due") row (phrase (codes "input transition"))
endless_line (RepeatedDue row) = row_line (codes "due") row (phrase (codes "repeated"))
endless_line (OutOfRange row) = row_line (codes "due") row (phrase (codes "out of range"))
endless_line (Falls row) = row_line (codes "due") row (phrase (codes "falls"))
endless_line NoRowRoom = []

-- ---- that different answers have different texts

-- that a file is longer than its limit
abbrev pub long_file_line : List (List ℕ)
long_file_line = phrase (codes "refused: the due file is longer than 4194304 bytes")

-- that a file could not be read
abbrev pub unread_file_line : List (List ℕ)
unread_file_line = phrase (codes "fault: cannot read the due file")

-- an answer about a net and a file: that the file is too long or could not be read, or its first fault, or the releases, or why they are not
-- told
pub data EndlessAnswer : Type 0 where
  LongFile : EndlessAnswer
  UnreadFile : EndlessAnswer
  Faulty : (fault : EndlessRefusal) → EndlessAnswer
  Answered : (answer : Result (List Release) ForeverRefusal) → EndlessAnswer

-- the lines of an answer
abbrev pub answer_lines : NetLists → EndlessAnswer → List (List (List ℕ))
answer_lines net LongFile = long_file_line ∷ []
answer_lines net UnreadFile = unread_file_line ∷ []
answer_lines net (Faulty fault) = endless_line fault ∷ []
answer_lines net (Answered (Ok releases)) = release_lines net releases
answer_lines net (Answered (Err refusal)) = forever_line net refusal ∷ []

-- a fault that is told, with its row
abbrev pub IsFaultTold : EndlessRefusal → Type 0
IsFaultTold (BadRow row) = row < 2 ^ 32
IsFaultTold (UnknownTransition row) = row < 2 ^ 32
IsFaultTold (NotDue row) = row < 2 ^ 32
IsFaultTold (RepeatedDue row) = row < 2 ^ 32
IsFaultTold (OutOfRange row) = row < 2 ^ 32
IsFaultTold (Falls row) = row < 2 ^ 32
IsFaultTold NoRowRoom = ⊥

-- a release that is told: the series is one
abbrev pub IsReleaseTold : Release → Type 0
IsReleaseTold Free = ⊤
IsReleaseTold (Latest series) = IsSeries series

-- a late firing of the net, and its numbers of 128 bits
pub record IsLateFiringTold (net : NetLists) (t number due least : ℕ) : Type 0 where
  pub transition : t < length net.transitions
  pub number_in : number < 2 ^ 128
  pub due_in : due < 2 ^ 128
  pub least_in : least < 2 ^ 128

-- an input of the net, and a row
pub record IsWideTold (net : NetLists) (u row : ℕ) : Type 0 where
  pub transition : u < length net.transitions
  pub row_in : row < 2 ^ 32

-- a refusal that is told, of transitions of the net
abbrev pub IsRefusalTold : NetLists → ForeverRefusal → Type 0
IsRefusalTold net (Late t number due least) = IsLateFiringTold net t.index number due least
IsRefusalTold net (TooLong u) = u.index < length net.transitions
IsRefusalTold net (TooWide u row) = IsWideTold net u.index row
IsRefusalTold net OutOfMemory = ⊥

-- an answer that is told about the net: want of memory is none; releases are one for each input
abbrev pub IsEndlessTold : NetLists → EndlessAnswer → Type 0
IsEndlessTold net LongFile = ⊤
IsEndlessTold net UnreadFile = ⊤
IsEndlessTold net (Faulty fault) = IsFaultTold fault
IsEndlessTold net (Answered (Ok releases)) = (length releases ≡ length (inputs_of net)) × All IsReleaseTold releases
IsEndlessTold net (Answered (Err refusal)) = IsRefusalTold net refusal

-- two answers about one net that have the same text are the same
abbrev pub TextsOfEndlessDiffer : Type 0
TextsOfEndlessDiffer = (net : NetLists) → IsNet net → (a b : EndlessAnswer) → IsEndlessTold net a → IsEndlessTold net b
    → written (answer_lines net a) ≡ written (answer_lines net b) → a ≡ b

-- ---- refusals in the net

-- the transition that a refusal names is one of the net; it is not want of memory
abbrev pub IsRefusalIn : NetLists → ForeverRefusal → Type 0
IsRefusalIn net (Late t number due least) = t.index < length net.transitions
IsRefusalIn net (TooLong u) = u.index < length net.transitions
IsRefusalIn net (TooWide u row) = u.index < length net.transitions
IsRefusalIn net OutOfMemory = ⊥
