use Rattle.std.proofs.Common.{◌≡◌, map, take}
use Rattle.teg_report.specs.AnswerMeanings.{times_to}
use Rattle.teg_transfer.specs.MovedTimes.{line_moved}
use Rattle.teg_transfer.proofs.transfer.moved_lines.Given as goal

abbrev pub invariant-loop-line : goal.invariant-loop-line
invariant-loop-line l = map times_to l.all.items ≡ map (λ line. line_moved l.lag (times_to line)) (take l.line-index l.lines)
