-- What the words of a call ask: answers, each with its net and what it was asked with.
use Rattle.std.specs.Prelude.{ℕ, Bool, List, [], ◌∷◌, Option, Some, None, String, string_bytes, bytes_eq, codes, if◌then◌else◌}
use Rattle.std.specs.Global.{Global}
use Rattle.std.specs.List.{slice_split}
use Rattle.std.specs.Option.{option_map}
use Rattle.csv_records.specs.NumberFields.{is_number, number_up_to}
use Rattle.audit_calls.specs.declared.question.Beside.{Beside}
use Rattle.audit_calls.specs.declared.question.Beside.TheVariants.{Nothing, File, Timetable}
use Rattle.audit_calls.specs.declared.question.Question.{Question}

-- the greatest period of a timetable
abbrev pub greatest_period_asked : ℕ
greatest_period_asked = 1000000

-- the period that a word tells: decimal digits of a number up to the greatest
abbrev pub period_asked : List ℕ → Option ℕ
period_asked word = if is_number word then number_up_to greatest_period_asked word else None

-- what an answer was asked with beside its net: nothing, a file, or a period and the file of a timetable
abbrev pub beside_asked : List (List ℕ) → Option Beside
beside_asked [] = Some Nothing
beside_asked (file ∷ []) = Some (File file)
beside_asked (word ∷ table ∷ []) = option_map (λ period. Timetable period table) (period_asked word)
beside_asked words = None

-- the question of these words: the file of a net, that of an answer, and what it was asked with
abbrev pub question_asked : List (List ℕ) → Option Question
question_asked (net ∷ answer ∷ more) = option_map (λ beside. record { net = net; answer = answer; beside = beside }) (beside_asked more)
question_asked words = None

-- whether the word stands between two questions
abbrev pub is_between : String Global → Bool
is_between word = bytes_eq (string_bytes word) (codes "--")

-- the words of each question
abbrev pub words_of_questions : List (String Global) → List (List (String Global))
words_of_questions words = slice_split is_between words
