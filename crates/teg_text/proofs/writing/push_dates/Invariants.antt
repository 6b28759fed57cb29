use Rattle.std.proofs.Common.{◌≡◌, ◌++◌, ◌∷◌, All, take, string_bytes}
use Rattle.std.specs.List.{flat_map}
use Rattle.teg_text.specs.ValueWords.{IsDate, date_word}
use Rattle.teg_text.proofs.writing.push_dates.Given as goal

abbrev pub invariant-loop-date : goal.invariant-loop-date
invariant-loop-date l =
    (string_bytes l.text ≡ string_bytes l.initial.text ++ flat_map (λ date. 32 ∷ date_word date) (take l.date-index l.dates)) × All IsDate (take l.date-index l.dates)
