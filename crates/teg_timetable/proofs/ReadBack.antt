-- Answers and refusals about timetables are read back from their texts.
use Rattle.std.proofs.Common.{ℕ, ◌+◌, ◌<◌, ◌≤◌, ◌≡◌, ◌^◌, true, List, [], ◌∷◌, All, length, map, codes, drop, refl, sym, ap, ap₂, ◌∙◌, arith}
use Rattle.std.specs.Prelude.{if◌then◌else◌}
use Rattle.std.specs.Fmt.{decimal}
use Rattle.std.specs.List.{list_all}
use Rattle.std.proofs.lemmas.Bool.{and_from}
use Rattle.std.proofs.lemmas.List.Elements.{All-head, All-tail}
use Rattle.teg_net.specs.Nets.{NetLists, IsNet}
use Rattle.teg_text.specs.Lines.{is_word, is_line, are_lines}
use Rattle.teg_text.specs.WordsOfNames.{place_named, transition_in}
use Rattle.teg_text.specs.WordReading.{lines_in, line_at, word, stands_at, number_in}
use Rattle.teg_text.proofs.Back.{word64_back}
use Rattle.teg_text.proofs.NamesRead.{circuits, place_back, place_is_word, transition_back, transition_is_word}
use Rattle.teg_text.proofs.Reading.{written_read}
use Rattle.teg_text.proofs.LineBlocks.{rows, IsReadBack}
use Rattle.teg_text.proofs.Words.{decimal_is_word}
use Rattle.teg_timetable.specs.Spreads.{RecoveredTold, KeptTold}
use Rattle.teg_timetable.specs.TimetableTexts.{ToldTimetable, LongFileTold, UnreadFileTold, SpreadTold, BadRowTold, UnknownTold, RepeatedTold}
use Rattle.teg_timetable.specs.TimetableTexts.{OutOfRangeTold, MissingTold, TooLargeTold, UnworkableTold, TooLongTold, delays_line, delays_lines}
use Rattle.teg_timetable.specs.TimetableTexts.{told_lines, IsTimetableTold, TextsOfTimetablesDiffer}

-- ---- what is read

abbrev row_in : List (List ℕ) → List ℕ
row_in line = map number_in (drop 2 line)

abbrev row_told : List (List ℕ) → ToldTimetable
row_told line =
    if stands_at 4 line (codes "is") then BadRowTold (number_in (word 3 line))
    else if stands_at 4 line (codes "unknown") then UnknownTold (number_in (word 3 line))
    else if stands_at 4 line (codes "repeated") then RepeatedTold (number_in (word 3 line))
    else OutOfRangeTold (number_in (word 3 line))

abbrev refusal_told : NetLists → List (List ℕ) → ToldTimetable
refusal_told net line =
    if stands_at 0 line (codes "too") then TooLongTold (number_in (word 6 line))
    else if stands_at 0 line (codes "fault:") then UnreadFileTold
    else if stands_at 1 line (codes "the") then LongFileTold
    else if stands_at 1 line (codes "no") then MissingTold (transition_in net (word 4 line))
    else if stands_at 1 line (codes "place") then UnworkableTold (place_named net (word 2 line))
    else if stands_at 2 line (codes "of") then TooLargeTold (number_in (word 3 line)) (number_in (word 6 line))
    else row_told line

abbrev spread_in : NetLists → List (List (List ℕ)) → ToldTimetable
spread_in net lines =
    if stands_at 0 (line_at 1 lines) (codes "recovered")
    then SpreadTold (number_in (word 2 (line_at 0 lines))) (number_in (word 4 (line_at 0 lines))) (RecoveredTold (number_in (word 2 (line_at 1 lines)))) (map row_in (drop 2 lines))
    else SpreadTold (number_in (word 2 (line_at 0 lines))) (number_in (word 4 (line_at 0 lines))) (KeptTold (map (place_named net) (drop 1 (line_at 2 lines)))) (map row_in (drop 3 lines))

abbrev told_in : NetLists → List (List (List ℕ)) → ToldTimetable
told_in net lines = if stands_at 0 (line_at 0 lines) (codes "settled") then spread_in net lines else refusal_told net (line_at 0 lines)

-- ---- delays

numbers : IsReadBack (All (λ d. d < 2 ^ 64)) (list_all is_word) (map decimal) (map number_in)
numbers = rows (λ (d : ℕ). d < 2 ^ 64) is_word decimal number_in (record { passes = λ d l. decimal_is_word d; back = λ d l. word64_back d l })

delays_back : (net : NetLists) (t : ℕ) (delays : List (List ℕ)) → All (All (λ d. d < 2 ^ 64)) delays → map row_in (delays_lines net t delays) ≡ delays
delays_back net t [] all = refl
delays_back net t (row ∷ delays) all =
    ap₂ (λ (y : List ℕ) (ys : List (List ℕ)). y ∷ ys) (numbers.back row (All-head (All (λ d. d < 2 ^ 64)) row delays all))
    (delays_back net (t + 1) delays (All-tail (All (λ d. d < 2 ^ 64)) row delays all))

delays_pass : (net : NetLists) (t : ℕ) (delays : List (List ℕ)) → IsNet net → t + length delays ≤ length net.transitions → All (All (λ d. d < 2 ^ 64)) delays
    → list_all is_line (delays_lines net t delays) ≡ true
delays_pass net t [] rules l all = refl
delays_pass net t (row ∷ delays) rules l all =
    and_from (is_line (delays_line net t row)) (list_all is_line (delays_lines net (t + 1) delays))
    (rw (transition_is_word net (record { index = t }) rules (omega arith)) (numbers.passes row (All-head (All (λ d. d < 2 ^ 64)) row delays all)))
    (delays_pass net (t + 1) delays rules (omega arith) (All-tail (All (λ d. d < 2 ^ 64)) row delays all))

-- ---- answers

-- the lines are read back from their text, and what is told from the lines
record IsRead (net : NetLists) (p : ToldTimetable) : Type 0 where
  words : are_lines (told_lines net p) ≡ true
  told : told_in net (told_lines net p) ≡ p

is_read : (net : NetLists) → IsNet net → (p : ToldTimetable) → IsTimetableTold net p → IsRead net p
is_read net rules LongFileTold h = record { words = refl; told = refl }
is_read net rules UnreadFileTold h = record { words = refl; told = refl }
is_read net rules (SpreadTold after period (RecoveredTold last) delays) h = record {
  words = rw (decimal_is_word after, decimal_is_word period, decimal_is_word last) (delays_pass net 0 delays rules (omega (arith, h.each)) h.small);
  told = rw (word64_back after h.after_in, word64_back period h.period_in, word64_back last h.outcome_in, delays_back net 0 delays h.small) refl;
}
is_read net rules (SpreadTold after period (KeptTold circuit) delays) h = record {
  words = rw (decimal_is_word after, decimal_is_word period, (circuits net rules).passes circuit h.outcome_in) (delays_pass net 0 delays rules (omega (arith, h.each)) h.small);
  told = rw (word64_back after h.after_in, word64_back period h.period_in, (circuits net rules).back circuit h.outcome_in, delays_back net 0 delays h.small) refl;
}
is_read net rules (BadRowTold row) h = record { words = rw (decimal_is_word row) refl; told = ap BadRowTold (word64_back row h) }
is_read net rules (UnknownTold row) h = record { words = rw (decimal_is_word row) refl; told = ap UnknownTold (word64_back row h) }
is_read net rules (RepeatedTold row) h = record { words = rw (decimal_is_word row) refl; told = ap RepeatedTold (word64_back row h) }
is_read net rules (OutOfRangeTold row) h = record { words = rw (decimal_is_word row) refl; told = ap OutOfRangeTold (word64_back row h) }
is_read net rules (MissingTold transition) h = record {
  words = rw (transition_is_word net transition rules h) refl;
  told = ap MissingTold (transition_back net transition rules h);
}
is_read net rules (TooLargeTold transitions places) h = record {
  words = rw (decimal_is_word transitions, decimal_is_word places) refl;
  told = ap₂ TooLargeTold (word64_back transitions h.0) (word64_back places h.1);
}
is_read net rules (UnworkableTold place) h = record { words = rw (place_is_word net place rules h) refl; told = ap UnworkableTold (place_back net place rules h) }
is_read net rules (TooLongTold limit) h = record { words = rw (decimal_is_word limit) refl; told = ap TooLongTold (word64_back limit h) }

pub texts_of_timetables_differ : TextsOfTimetablesDiffer
texts_of_timetables_differ net rules p q h k e =
    let one = is_read net rules p h in
    let two = is_read net rules q k in
    sym one.told ∙ ap (told_in net) (sym (written_read (told_lines net p) one.words) ∙ ap lines_in e ∙ written_read (told_lines net q) two.words) ∙ two.told
