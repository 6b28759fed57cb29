-- The dates of a form by rows as words of a line.
use Rattle.std.proofs.Common.{ℕ, ℤ, ◌+◌, ◌<◌, ◌≡◌, List, map, ap, ◌∙◌, arith}
use Rattle.std.specs.List.{range_with_len}
use Rattle.std.proofs.lemmas.List.FromFn.{get_or-map-range_with_len}
use Rattle.std.proofs.lemmas.Simd.{map-map}
use Rattle.dioid.specs.declared.dates.Date.{Date}
use Rattle.settled_laws.specs.SettledForms.{row_of}
use Rattle.teg_text.specs.ValueWords.{date_word}
use Rattle.dating_certificates.specs.CheckedRows.{date_in_rows}
use Rattle.settled_certificates.specs.SettledRows.{form_by_rows}

-- the words of a row of the form are those of the dates of its transition
pub words_of_row : (n : ℕ) (dates : List Date) (after period : ℕ) (steps : List ℤ) (t : ℕ) → t < n
    → map date_word (row_of (form_by_rows n dates after period steps) t) ≡ map (λ k. date_word (date_in_rows n dates t k)) (range_with_len 1 (after + period))
words_of_row n dates after period steps t l =
    ap (map date_word) (get_or-map-range_with_len (λ u. map (date_in_rows n dates u) (range_with_len 1 (after + period))) 0 n t t _ l (omega arith))
    ∙ map-map date_word (date_in_rows n dates t) (range_with_len 1 (after + period))
