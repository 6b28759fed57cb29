use Rattle.std.proofs.Common.{◌≡◌, ◌++◌, ◌∷◌}
use Rattle.std.specs.Prelude.{string_bytes}
use Rattle.std.specs.Fmt.{decimal}
use Rattle.std.specs.List.{flat_map, range_with_len}
use Rattle.teg_timetable.specs.Spreads.{delay_by_spread}
use Rattle.teg_timetable.specs.TimetableTexts.{AreLeftDelaysShort}
use Rattle.teg_timetable.proofs.texts.push_line.Given as goal

abbrev pub invariant-loop-done : goal.invariant-loop-done
invariant-loop-done l =
    (string_bytes l.text ≡ string_bytes l.initial.text ++ flat_map (λ k. 32 ∷ decimal (delay_by_spread l.delayed l.index k)) (range_with_len 1 l.done))
    × AreLeftDelaysShort l.delayed l.index l.done
