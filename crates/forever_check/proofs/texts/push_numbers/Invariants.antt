use Rattle.std.proofs.Common.{◌≡◌, ◌++◌, ◌∷◌, take, string_bytes}
use Rattle.std.specs.Fmt.{decimal}
use Rattle.std.specs.List.{flat_map}
use Rattle.forever_check.proofs.texts.push_numbers.Given as goal

abbrev pub invariant-loop-date : goal.invariant-loop-date
invariant-loop-date l = string_bytes l.text ≡ string_bytes l.initial.text ++ flat_map (λ date. 32 ∷ decimal date) (take l.date-index l.dates)
