use Rattle.std.proofs.Common.{◌≡◌, ◌++◌, ◌∷◌, string_bytes}
use Rattle.std.specs.List.{flat_map, range_with_len}
use Rattle.teg_text.specs.ValueWords.{date_word}
use Rattle.dating_certificates.specs.CheckedRows.{date_in_rows}
use Rattle.settled_check.proofs.settled.push_told.Given as goal

abbrev pub invariant-loop-before : goal.invariant-loop-before
invariant-loop-before l = string_bytes l.text ≡ string_bytes l.initial.text ++ flat_map (λ k. 32 ∷ date_word (date_in_rows l.width l.dates l.index k)) (range_with_len 1 l.before)
