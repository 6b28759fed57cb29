use Rattle.std.proofs.Common.{ℕ, ◌<◌, ◌≡◌, ◌++◌, [], string_bytes}
use Rattle.std.specs.List.{flat_map, range_with_len}
use Rattle.teg_text.specs.Lines.{line_then}
use Rattle.teg_timetable.specs.Spreads.{delay_by_spread}
use Rattle.teg_timetable.specs.TimetableTexts.{AreLeftDelaysShort, delays_line, delays_up_to}
use Rattle.teg_timetable.proofs.texts.spread_text.Given as goal

abbrev pub invariant-loop-index : goal.invariant-loop-index
invariant-loop-index l =
    (string_bytes l.text ≡ string_bytes l.initial.text
    ++ flat_map (λ i. line_then (delays_line l.net i (delays_up_to (delay_by_spread l.delayed i) l.count)) []) (range_with_len 0 l.index))
    × ((i : ℕ) → i < l.index → AreLeftDelaysShort l.delayed i l.count)
