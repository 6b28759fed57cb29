-- How an answer is read back from its text. No text rests on this, nor on what is said with each answer of how it is read back: all that
-- it says is that there is such a function.
use Rattle.std.specs.Prelude.{ℕ, Bool, ◌≡◌, ◌&&◌, ◌||◌, List, map, drop, codes, Option, Some, None, if◌then◌else◌, ⊤}
use Rattle.teg_net.specs.Nets.{NetLists}
use Rattle.teg_report.specs.PlanLines.{plan_in, late_in}
use Rattle.teg_report.specs.AnswerValues.{Answer, Usage, Listed, Form, NoCircuit, Cycle, Dates, Jit, Late, Slack, Transfer, Calc, Read, TooLarge}
use Rattle.teg_report.specs.AnswerValues.{TokenFree, NoTransition, Due, TooLong, Parse, Series, Fault}
use Rattle.teg_lines.specs.CircuitLines.{token_free_in}
use Rattle.teg_lines.specs.CycleLines.{cycle_in}
use Rattle.teg_lines.specs.RoundLines.{rounds_in_lines}
use Rattle.teg_report.specs.SettledTexts.{settled_in, transfer_in}
use Rattle.teg_text.specs.WordsOfNames.{ratio_of_word}
use Rattle.teg_text.specs.WordReading.{lines_in, line_at, word, stands_at, number_in, label_in}
use Rattle.teg_report.specs.Series.{series_in, parse_in, series_refused_in}
use Rattle.teg_report.specs.FormLines.{form_in}
use Rattle.teg_report.specs.FileRefusalLines.{refusal_in}
use Rattle.teg_report.specs.SlackLines.{slack_in, trial_in}
use Rattle.teg_report.specs.DateLists.{table_in}
use Rattle.teg_report.specs.FileRows.{due_refusal_in, replayed_in, log_in}
use Rattle.teg_report.specs.ShortAnswers.{file_in, live_in, dated_in}

-- whether the first line begins with this word
abbrev pub begins : List (List (List ℕ)) → List ℕ → Bool
begins lines text = stands_at 0 (line_at 0 lines) text

-- whether this is the second word of the first line
abbrev pub second_word_is : List (List (List ℕ)) → List ℕ → Bool
second_word_is lines text = stands_at 1 (line_at 0 lines) text

-- the answer that these lines tell, by the names of the net
abbrev pub answer_of : NetLists → List (List (List ℕ)) → Answer
answer_of net lines =
    if begins lines (codes "usage:") then Usage
    else if begins lines (codes "live") then live_in lines
    else if begins lines (codes "dates") then Listed (table_in net lines)
    else if begins lines (codes "form") then Form (form_in net lines)
    else if begins lines (codes "no") then NoCircuit
    else if begins lines (codes "cycle") && stands_at 0 (line_at 1 lines) (codes "circuit") then Cycle (cycle_in net lines) (rounds_in_lines net lines)
    else if begins lines (codes "cycle") then Slack (ratio_of_word (word 2 (line_at 0 lines))) (map slack_in (drop 1 lines))
    else if begins lines (codes "settled") then Dates (settled_in lines)
    else if begins lines (codes "latest") then Jit (plan_in net lines)
    else if begins lines (codes "late") then Late (Some (late_in net lines))
    else if begins lines (codes "transfer") then Transfer (transfer_in net lines)
    else if begins lines (codes "date") then dated_in net (line_at 0 lines)
    else if begins lines (codes "replayed") then replayed_in lines
    else if begins lines (codes "trial") then trial_in lines
    else if begins lines (codes "too") then TooLong (number_in (word 6 (line_at 0 lines)))
    else if begins lines (codes "series") then Calc (series_in (line_at 0 lines))
    else if begins lines (codes "fault:") then Fault (file_in (word 4 (line_at 0 lines)))
    else if second_word_is lines (codes "the") then TooLarge (file_in (word 2 (line_at 0 lines)))
    else if second_word_is lines (codes "token-free") then TokenFree (token_free_in net lines)
    else if second_word_is lines (codes "syntax") || second_word_is lines (codes "too") then Parse (parse_in (line_at 0 lines))
    else if second_word_is lines (codes "series") || second_word_is lines (codes "number") then Series (series_refused_in (line_at 0 lines))
    else if second_word_is lines (codes "due") then Due (due_refusal_in (line_at 0 lines))
    else if second_word_is lines (codes "log") then log_in net lines
    else if second_word_is lines (codes "no") && stands_at 2 (line_at 0 lines) (codes "transition") then NoTransition (label_in (word 3 (line_at 0 lines)))
    else Read (refusal_in (line_at 0 lines))

-- the answer that this text tells, by the names of the net
abbrev pub answer_in : NetLists → List ℕ → Answer
answer_in net text = answer_of net (lines_in text)

-- the answer was told with this net, or without one
abbrev pub IsNamedBy : Option NetLists → NetLists → Type 0
IsNamedBy None names = ⊤
IsNamedBy (Some net) names = names ≡ net

-- two answers are about one net: each was told with it, or without one
abbrev pub AreOfOneNet : Option NetLists → Option NetLists → Type 0
AreOfOneNet (Some one) (Some two) = one ≡ two
AreOfOneNet _ _ = ⊤

-- the answer is read back from these bytes, by the names of its net, or of any net where it was told without one
abbrev pub IsReadFrom : Option NetLists → Answer → List ℕ → Type 0
IsReadFrom net answer bytes = (names : NetLists) → IsNamedBy net names → answer_in names bytes ≡ answer
