use Rattle.std.proofs.Common.{◌≡◌, ◌++◌, map, slice_index_or, take, string_bytes}
use Rattle.std.specs.List.{All, flat_map, range_with_len}
use Rattle.teg_lines.specs.RoundLines.{IsRoundKept, no_round, round_lines}
use Rattle.teg_lines.specs.CycleMeanings.{round_lists}
use Rattle.teg_text.specs.Lines.{written}
use Rattle.teg_lines.proofs.rounds.push_run.Given as goal

abbrev pub invariant-loop-turn : goal.invariant-loop-turn
invariant-loop-turn l =
    (string_bytes l.text ≡ string_bytes l.initial.text
    ++ flat_map (λ k. written (round_lines l.net l.part k (slice_index_or (map round_lists l.rounds) k no_round))) (range_with_len 0 l.turn))
    × All IsRoundKept (take l.turn (map round_lists l.rounds))
