-- Settled forms, and times from inputs to outputs, are read back from their lines.
use Rattle.std.proofs.Common.{◌≡◌, ℕ, suc, ℤ, ◌+◌, ◌-◌, ◌<◌, ◌^◌, unsigned_abs, true, not, List, [], ◌∷◌, ◌++◌, All, map, take, length, get_or, refl, ap, ◌∙◌, arith, codes, pos}
use Rattle.std.specs.Fmt.{signed_decimal}
use Rattle.std.specs.List.{flat_map, list_all, range_with_len}
use Rattle.std.specs.Prelude.{⊤}
use Rattle.std.proofs.lemmas.Bool.{and_from}
use Rattle.std.proofs.lemmas.List.{length-append}
use Rattle.dioid.specs.declared.dates.Date.{Date}
use Rattle.settled_forms.specs.settled_laws.SettledForms.{SettledForm, row_of, step_of_form}
use Rattle.teg_net.specs.Nets.{NetLists, IsNet}
use Rattle.teg_report.specs.SettledTexts.{is_from, row_dates_in, row_step_in, times_to_in, times_from_in, AreTimesKept, AreTimesToKept, IsSettledKept}
use Rattle.teg_report.specs.SettledTexts.{AreTimesIn, TimesFrom, TimesTo, from_line, from_lines, output_count, row_words, settled_line, settled_lines}
use Rattle.teg_report.specs.SettledTexts.{to_line, transfer_lines}
use Rattle.teg_report.specs.AnswerValues.{Dates, Transfer}
use Rattle.teg_report.proofs.IsRead.{IsRead}
use Rattle.teg_text.proofs.NamesRead.{settled_are_words, transition_back, transition_is_word}
use Rattle.teg_text.specs.Lines.{is_line, is_word}
use Rattle.teg_text.specs.WordsOfNames.{name_of_transition}
use Rattle.teg_text.specs.WordReading.{date_of_word, signed_in}
use Rattle.teg_text.specs.LineBlocks.{LineBlocks, blocks_in}
use Rattle.teg_text.specs.ValueWords.{IsDate, date_word}
use Rattle.teg_text.proofs.Back.{date_back, signed_back, word64_back}
use Rattle.teg_text.proofs.LineBlocks.{IsReadBack, before_back, behind_back, blocks_back, flat_passes, map_back, map_passes, range_all, row_back, rows}
use Rattle.teg_text.proofs.Words.{all_append, date_is_word, decimal_is_word, signed_is_word}
use Rattle.teg_text.proofs.HeadedBlocks.{is_block}

-- dates and a step

row_is_words : (dates : List Date) (step : ℤ) → list_all is_word (row_words dates step) ≡ true
row_is_words dates step =
    all_append is_word (map date_word dates) (codes "step" ∷ signed_decimal step ∷ []) (map_passes (λ (d : Date). ⊤) is_word date_word (λ d _. date_is_word d) dates (λ i d l. tt))
    (rw (signed_is_word step) refl)

dates_back : (a b : List ℕ) (dates : List Date) (step : ℤ) → All IsDate dates → row_dates_in (a ∷ b ∷ row_words dates step) ≡ dates
dates_back a b dates step h =
    let told = map date_word dates in
    let more = codes "step" ∷ signed_decimal step ∷ [] in
    let long : length (a ∷ b ∷ (told ++ more)) - 4 ≡ length told = omega (arith, length-append told more) in
    ap (λ (n : ℕ). map date_of_word (take n (told ++ more))) long
    ∙ (ap (map date_of_word) (before_back told more) ∙ map_back IsDate date_word date_of_word date_back dates h)

step_back : (a b : List ℕ) (dates : List Date) (step : ℤ) → unsigned_abs step < 2 ^ 128 → row_step_in (a ∷ b ∷ row_words dates step) ≡ step
step_back a b dates step h =
    let told = map date_word dates in
    let more = codes "step" ∷ signed_decimal step ∷ [] in
    let last : length (a ∷ b ∷ (told ++ more)) - 1 ≡ suc (suc (length told + 1)) = omega (arith, length-append told more) in
    ap (λ (n : ℕ). signed_in (get_or (a ∷ b ∷ (told ++ more)) n [])) last
    ∙ (ap signed_in (behind_back told more 1 []) ∙ signed_back step h)

-- a settled form

settled_is_line : (net : NetLists) (f : SettledForm) (t : ℕ) → IsNet net → t < length net.transitions → is_line (settled_line net f t) ≡ true
settled_is_line net f t rules l = rw (transition_is_word net (record { index = t }) rules l, row_is_words (row_of f t) (step_of_form f t)) refl

pub settled_read : (f : SettledForm) → IsSettledKept f → (net : NetLists) → IsNet net → length f.rows ≡ length net.transitions → IsRead net (settled_lines net f) (Dates f)
settled_read f h net rules full =
    let count = length net.transitions in
    let all : list_all is_line (map (settled_line net f) (range_with_len 0 count)) ≡ true =
    map_passes (λ t. t < count) is_line (settled_line net f) (λ t l. settled_is_line net f t rules l) (range_with_len 0 count) (range_all (λ t. t < count) count (λ t l. l)) in
    let dates : map row_dates_in (map (settled_line net f) (range_with_len 0 count)) ≡ f.rows =
    row_back row_dates_in (settled_line net f) count f.rows [] full
    (λ t l. dates_back (codes "transition") (name_of_transition net (record { index = t })) (row_of f t) (step_of_form f t)
    (h.dates t [] (omega (arith, l, full)))) in
    let steps : map row_step_in (map (settled_line net f) (range_with_len 0 count)) ≡ f.steps =
    row_back row_step_in (settled_line net f) count f.steps (pos 0) (h.full ∙ full)
    (λ t l. step_back (codes "transition") (name_of_transition net (record { index = t })) (row_of f t) (step_of_form f t)
    (h.steps t (pos 0) (omega (arith, l, full, h.full)))) in
    let after = word64_back f.after h.after in
    let period = word64_back f.period h.period in
    record {
      words = and_from _ _ (settled_are_words f.after f.period) all;
      back = λ i. Dates (record { after = after i; period = period i; rows = dates i; steps = steps i });
    }

-- times from inputs to outputs

-- an output of the net, and its numbers
record IsToOf (net : NetLists) (times : TimesTo) : Type 0 where
  inside : times.to.index < length net.transitions
  numbers : AreTimesToKept times

-- an input of the net, its outputs, and their numbers
record IsFromOf (net : NetLists) (times : TimesFrom) : Type 0 where
  inside : AreTimesIn net times
  numbers : AreTimesKept times

to_read : (net : NetLists) → IsNet net → IsReadBack (IsToOf net) is_line (to_line net) (times_to_in net)
to_read net rules = record {
  passes = λ t h. rw (transition_is_word net t.to rules h.inside, row_is_words t.dates t.step) refl;
  back = λ t h.
      let to = transition_back net t.to rules h.inside in
      let dates = dates_back (codes "to") (name_of_transition net t.to) t.dates t.step h.numbers.dates in
      let step = step_back (codes "to") (name_of_transition net t.to) t.dates t.step h.numbers.step in
      λ i. record { to = to i; dates = dates i; step = step i };
}

tos_of : (net : NetLists) (times : TimesFrom) → IsFromOf net times → All (IsToOf net) times.lines
tos_of net times h = λ i d l. record { inside = h.inside.lines i d l; numbers = h.numbers.lines i d l }

from_is_line : (net : NetLists) (times : TimesFrom) → IsNet net → IsFromOf net times → is_line (from_line net times) ≡ true
from_is_line net times rules h = rw (transition_is_word net times.from rules h.inside.from, decimal_is_word times.after, decimal_is_word times.period) refl

from_read : (net : NetLists) → IsNet net → IsReadBack (IsFromOf net) (list_all is_line) (from_lines net) (times_from_in net)
from_read net rules =
    let lines = rows _ _ _ _ (to_read net rules) in
    record {
      passes = λ t h. and_from _ _ (from_is_line net t rules h) (lines.passes t.lines (tos_of net t h));
      back = λ t h.
          let from = transition_back net t.from rules h.inside.from in
          let after = word64_back t.after h.numbers.after in
          let period = word64_back t.period h.numbers.period in
          let tos = lines.back t.lines (tos_of net t h) in
          λ i. record { from = from i; after = after i; period = period i; lines = tos i };
    }

from_block : (net : NetLists) (times : TimesFrom) → is_block is_from (from_lines net times) ≡ true
from_block net times = map_passes (λ (t : TimesTo). ⊤) (λ l. not (is_from l)) (to_line net) (λ t _. refl) times.lines (λ i d l. tt)

pub transfer_read : (inputs : List TimesFrom) → All AreTimesKept inputs → (net : NetLists) → IsNet net → All (AreTimesIn net) inputs →
    IsRead net (transfer_lines net inputs) (Transfer inputs)
transfer_read inputs kept net rules within =
    let each : All (IsFromOf net) inputs = λ i d l. record { inside = within i d l; numbers = kept i d l } in
    let read = from_read net rules in
    let blocks : (blocks_in is_from (flat_map (from_lines net) inputs)).blocks ≡ map (from_lines net) inputs =
    ap (λ (b : LineBlocks (List (List ℕ))). b.blocks) (blocks_back is_from (IsFromOf net) (from_lines net) (λ t _. from_block net t) inputs each) in
    record {
      words = rw (decimal_is_word (length inputs), decimal_is_word (output_count net)) (flat_passes (IsFromOf net) is_line (from_lines net) read.passes inputs each);
      back = ap Transfer (ap (map (times_from_in net)) blocks ∙ map_back (IsFromOf net) (from_lines net) (times_from_in net) read.back inputs each);
    }
