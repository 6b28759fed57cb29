-- Lists of dates are read back from their lines.
use Rattle.std.proofs.Common.{◌≡◌, ℕ, ◌*◌, ◌≤◌, true, List, [], All, IsTrue, ap, sym, subst, ◌∙◌, length, arith, decimal}
use Rattle.std.proofs.lemmas.Bool.{and_from}
use Rattle.std.specs.List.{range_with_len}
use Rattle.std.specs.Prelude.{⊤}
use Rattle.dioid.specs.declared.dates.Date.{Date}
use Rattle.dioid.specs.declared.dates.Date.TheVariants.{Early}
use Rattle.date_rows.specs.DateTables.{TableDates, IsDateTable, date_at, most_numbers}
use Rattle.teg_net.specs.declared.entries.Transition.{Transition}
use Rattle.teg_net.specs.Names.{is_name}
use Rattle.teg_net.specs.Nets.{NetLists, IsNet}
use Rattle.teg_report.specs.DateLists.{table_in, dated_firing, list_lines, number_line}
use Rattle.teg_report.specs.AnswerValues.{Listed}
use Rattle.teg_report.proofs.IsRead.{IsRead}
use Rattle.teg_text.proofs.NamesRead.{name_is_word}
use Rattle.teg_text.specs.Lines.{is_word, is_line, are_lines}
use Rattle.teg_text.specs.WordReading.{date_of_word}
use Rattle.teg_text.specs.ValueWords.{IsDate, date_word}
use Rattle.teg_text.proofs.Back.{number_back, date_back}
use Rattle.teg_text.proofs.LineBlocks.{map_passes, cells_back}
use Rattle.teg_text.proofs.Words.{decimal_is_word, date_is_word}

table_of : (net : NetLists) (count : ℕ) (dates : List Date) → count ≤ most_numbers → All IsDate dates → length dates ≡ count * length net.transitions →
    table_in net (list_lines net (date_at (record { width = length net.transitions; count = count; dates = dates })) count) ≡ record { width = length net.transitions; count = count; dates = dates }
table_of net count dates few kept full =
    rw (number_back count (omega arith))
    (ap (λ (ds : List Date). record { width = length net.transitions; count = count; dates = ds })
    (cells_back IsDate date_word date_of_word date_back decimal (length net.transitions) count dates Early [] kept full))

number_is_line : (width : ℕ) (x : ℕ → ℕ → Date) (k : ℕ) → is_line (number_line width x k) ≡ true
number_is_line width x k = and_from _ _ (decimal_is_word k) (map_passes (λ (t : ℕ). ⊤) is_word (dated_firing x k) (λ t _. date_is_word (x t k)) (range_with_len 0 width) (λ i d h. tt))

list_words : (net : NetLists) (x : ℕ → ℕ → Date) (count : ℕ) → IsNet net → are_lines (list_lines net x count) ≡ true
list_words net x count rules =
    rw (decimal_is_word count, map_passes (λ (t : Transition). IsTrue (is_name t.name)) is_word (λ (t : Transition). t.name) (λ t h. name_is_word t.name h) net.transitions rules.transition_names)
    (map_passes (λ (k : ℕ). ⊤) is_line (number_line (length net.transitions) x) (λ k _. number_is_line (length net.transitions) x k) (range_with_len 1 count) (λ i d h. tt))

pub list_read : (table : TableDates) → IsDateTable table → All IsDate table.dates → (net : NetLists) → IsNet net → table.width ≡ length net.transitions →
    IsRead net (list_lines net (date_at table) table.count) (Listed table)
list_read table h kept net rules width = record {
  words = list_words net (date_at table) table.count rules;
  back = ap Listed
      (subst (λ (w : ℕ). table_in net (list_lines net
      (date_at (record { width = w; count = table.count; dates = table.dates })) table.count) ≡ record
      { width = w; count = table.count; dates = table.dates })
      (sym width) (table_of net table.count table.dates h.count_in kept (h.full ∙ ap (λ (w : ℕ). table.count * w) width)));
}
