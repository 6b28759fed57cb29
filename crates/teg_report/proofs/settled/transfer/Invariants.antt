use Rattle.std.proofs.Common.{◌≡◌, ◌++◌, All, map, take, string_bytes}
use Rattle.std.specs.List.{flat_map}
use Rattle.teg_report.specs.SettledTexts.{AreTimesKept, from_lines}
use Rattle.teg_report.specs.AnswerMeanings.{times_from}
use Rattle.teg_text.specs.Lines.{written}
use Rattle.teg_report.proofs.settled.transfer.Given as goal

abbrev pub invariant-loop-from : goal.invariant-loop-from
invariant-loop-from l =
    (string_bytes l.text ≡ string_bytes l.initial.text ++ flat_map (λ x. written (from_lines l.net x)) (take l.from-index (map times_from l.inputs)))
    × All AreTimesKept (take l.from-index (map times_from l.inputs))
