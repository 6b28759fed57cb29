-- Slack and summaries of nets are read back from their lines.
use Rattle.std.proofs.Common.{◌≡◌, ℕ, ◌<◌, true, List, [], ◌∷◌, All, refl, ap₂, ◌∙◌, map, drop, length, slice_index_or, arith}
use Rattle.std.specs.List.{list_all, range_with_len}
use Rattle.dioid.specs.declared.dates.Date.{Date}
use Rattle.teg_critical.specs.declared.slacks.Slack.{Slack}
use Rattle.teg_critical.specs.declared.slacks.Slack.TheVariants.{NoCircuit, Critical, Rise}
use Rattle.teg_net.specs.Nets.{NetLists, IsNet}
use Rattle.teg_net.specs.Ratios.{Fraction}
use Rattle.teg_report.specs.Answering.{answer_of}
use Rattle.teg_report.specs.SlackLines.{slack_in, IsRatioKept, IsSlackKept, IsTrialKept, slack_line, slack_lines, slack_words, trial_lines}
use Rattle.teg_report.specs.AnswerValues.{Slack as SlackAnswer, Trial}
use Rattle.teg_report.proofs.IsRead.{IsRead}
use Rattle.teg_text.proofs.NamesRead.{place_is_word, ratio_back}
use Rattle.teg_text.specs.Lines.{is_line, is_word}
use Rattle.teg_text.specs.WordsOfNames.{ratio_of_word}
use Rattle.teg_text.specs.ValueWords.{ratio_word}
use Rattle.teg_text.proofs.Back.{word32_back, word64_back, date_back, ratio_is_word}
use Rattle.teg_text.proofs.LineBlocks.{map_passes, range_all, row_back}
use Rattle.teg_text.proofs.Words.{decimal_is_word, date_is_word}

words_are_words : (slack : Slack) → list_all is_word (slack_words slack) ≡ true
words_are_words NoCircuit = refl
words_are_words Critical = refl
words_are_words (Rise by) = rw (decimal_is_word by) refl

slack_is_line : (net : NetLists) (i : ℕ) (slack : Slack) → IsNet net → i < length net.places → is_line (slack_line net i slack) ≡ true
slack_is_line net i slack rules l = rw (place_is_word net (record { index = i }) rules l, words_are_words slack) refl

slack_back : (net : NetLists) (i : ℕ) (slack : Slack) → IsSlackKept slack → slack_in (slack_line net i slack) ≡ slack
slack_back net i NoCircuit h = refl
slack_back net i Critical h = refl
slack_back net i (Rise by) h = rw (word64_back by h) refl

-- the second line is not that of a circuit
timed_back : (net : NetLists) (ratio : Fraction) (slacks : List Slack) →
    answer_of net (slack_lines net ratio slacks) ≡ SlackAnswer (ratio_of_word (ratio_word ratio.time ratio.tokens)) (map slack_in (drop 1 (slack_lines net ratio slacks)))
timed_back net ratio [] = refl
timed_back net ratio (slack ∷ slacks) = refl

pub slack_read : (ratio : Fraction) (slacks : List Slack) → IsRatioKept ratio × All IsSlackKept slacks → (net : NetLists) → IsNet net → length slacks ≡ length net.places →
    IsRead net (slack_lines net ratio slacks) (SlackAnswer ratio slacks)
slack_read ratio slacks kept net rules full =
    let line : ℕ → List (List ℕ) = λ i. slack_line net i (slice_index_or slacks i NoCircuit) in
    let lines : list_all is_line (map line (range_with_len 0 (length slacks))) ≡ true =
    map_passes (λ i. i < length slacks) is_line line (λ i l. slack_is_line net i (slice_index_or slacks i NoCircuit) rules (omega (arith, l, full))) (range_with_len 0 (length slacks))
    (range_all (λ i. i < length slacks) (length slacks) (λ i l. l)) in
    let back : map slack_in (map line (range_with_len 0 (length slacks))) ≡ slacks =
    row_back slack_in line (length slacks) slacks NoCircuit refl (λ i l. slack_back net i (slice_index_or slacks i NoCircuit) (kept.1 i NoCircuit l)) in
    record {
      words = rw (ratio_is_word ratio.time ratio.tokens) lines;
      back = timed_back net ratio slacks ∙ ap₂ SlackAnswer (ratio_back ratio kept.0.0 kept.0.1) back;
    }

pub trial_read : (names : NetLists) (machines places : ℕ) (ratio : Fraction) (critical : ℕ) (last : Date) → IsTrialKept machines places ratio critical last →
    IsRead names (trial_lines machines places ratio critical last) (Trial machines places ratio critical last)
trial_read names machines places ratio critical last h = record {
  words = rw (decimal_is_word machines, decimal_is_word places, ratio_is_word ratio.time ratio.tokens, decimal_is_word critical, date_is_word last) refl;
  back = rw (word32_back machines h.0, word32_back places h.1, ratio_back ratio h.2.0 h.2.1, word32_back critical h.3, date_back last h.4) refl;
}
