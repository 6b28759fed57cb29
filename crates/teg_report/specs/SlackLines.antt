-- Slack, and the summary of a net that was made: their lines, what their numbers keep, and how they are read back.
use Rattle.std.specs.Prelude.{ℕ, List, [], ◌∷◌, ◌++◌, map, length, slice_index_or, codes, ⊤, if◌then◌else◌}
use Rattle.std.specs.Fmt.{decimal}
use Rattle.std.specs.List.{range_with_len}
use Rattle.dioid.specs.declared.dates.Date.{Date}
use Rattle.teg_critical.specs.declared.slacks.Slack.{Slack}
use Rattle.teg_critical.specs.declared.slacks.Slack.TheVariants.{NoCircuit, Critical, Rise}
use Rattle.teg_net.specs.Nets.{NetLists}
use Rattle.teg_net.specs.Ratios.{Fraction}
use Rattle.teg_report.specs.ShortAnswers.{word_and_number}
use Rattle.teg_text.specs.Lines.{phrase}
use Rattle.teg_text.specs.WordsOfNames.{name_of_place, ratio_of_word}
use Rattle.teg_text.specs.ValueWords.{date_word, ratio_word, IsDate}
use Rattle.teg_report.specs.AnswerValues.{Answer, Trial}
use Rattle.teg_text.specs.WordReading.{line_at, word, stands_at, number_in, date_of_word}
use Rattle.teg_lines.specs.Widths.{IsWord32, IsWord64}

-- the greatest ratio of a net
abbrev pub cycle_time_line : Fraction → List (List ℕ)
cycle_time_line ratio = phrase (codes "cycle time") ++ ratio_word ratio.time ratio.tokens ∷ []

-- what a place is told
abbrev pub slack_words : Slack → List (List ℕ)
slack_words NoCircuit = phrase (codes "no circuit")
slack_words Critical = codes "critical" ∷ []
slack_words (Rise by) = codes "slack" ∷ decimal by ∷ []

-- the line of the place of this number, counted from 0
abbrev pub slack_line : NetLists → ℕ → Slack → List (List ℕ)
slack_line net i slack = codes "place" ∷ name_of_place net (record { index = i }) ∷ slack_words slack

-- the greatest ratio, and a line for each place
abbrev pub slack_lines : NetLists → Fraction → List Slack → List (List (List ℕ))
slack_lines net ratio slacks =
    cycle_time_line ratio ∷ map (λ i. slack_line net i (slice_index_or slacks i NoCircuit)) (range_with_len 0 (length slacks))

-- of a net that was made for so many machines: how many places it has, its greatest ratio, how many places are critical, and a date
abbrev pub trial_lines : ℕ → ℕ → Fraction → ℕ → Date → List (List (List ℕ))
trial_lines machines places ratio critical last =
    word_and_number (codes "trial") machines ∷ word_and_number (codes "places") places ∷ cycle_time_line ratio ∷ word_and_number (codes "critical") critical
    ∷ (codes "last" ∷ date_word last ∷ []) ∷ []

-- the numbers of a ratio
abbrev pub IsRatioKept : Fraction → Type 0
IsRatioKept ratio = IsWord64 ratio.time × IsWord64 ratio.tokens

-- the number of a slack
abbrev pub IsSlackKept : Slack → Type 0
IsSlackKept NoCircuit = ⊤
IsSlackKept Critical = ⊤
IsSlackKept (Rise by) = IsWord64 by

-- the numbers of a summary
abbrev pub IsTrialKept : ℕ → ℕ → Fraction → ℕ → Date → Type 0
IsTrialKept machines places ratio critical last = IsWord32 machines × IsWord32 places × IsRatioKept ratio × IsWord32 critical × IsDate last

-- what a place is told
abbrev pub slack_in : List (List ℕ) → Slack
slack_in line = if stands_at 2 line (codes "no") then NoCircuit else if stands_at 2 line (codes "critical") then Critical else Rise (number_in (word 3 line))

-- the summary of a net that was made
abbrev pub trial_in : List (List (List ℕ)) → Answer
trial_in lines =
    Trial (number_in (word 1 (line_at 0 lines))) (number_in (word 1 (line_at 1 lines))) (ratio_of_word (word 2 (line_at 2 lines))) (number_in (word 1 (line_at 3 lines)))
    (date_of_word (word 1 (line_at 4 lines)))
