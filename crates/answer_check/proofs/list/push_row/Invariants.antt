use Rattle.std.proofs.Common.{◌+◌, ◌≡◌, ◌++◌, ◌∷◌, string_bytes}
use Rattle.std.specs.List.{flat_map, range_with_len}
use Rattle.teg_text.specs.ValueWords.{date_word}
use Rattle.dating_certificates.specs.CheckedRows.{date_in_rows}
use Rattle.answer_check.proofs.list.push_row.Given as goal

abbrev pub invariant-loop-index : goal.invariant-loop-index
invariant-loop-index l =
    string_bytes l.text ≡ string_bytes l.initial.text ++ flat_map (λ t. 32 ∷ date_word (date_in_rows l.width l.dates t (l.before + 1))) (range_with_len 0 l.index)
