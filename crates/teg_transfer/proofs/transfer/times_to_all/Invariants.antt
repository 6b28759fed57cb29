use Rattle.std.proofs.Common.{◌≡◌, map, take}
use Rattle.teg_report.specs.AnswerMeanings.{times_to}
use Rattle.teg_transfer.specs.TimesFromInputs.{times_in}
use Rattle.teg_transfer.proofs.transfer.times_to_all.Given as goal

abbrev pub invariant-loop-to : goal.invariant-loop-to
invariant-loop-to l = map times_to l.lines.items ≡ map (times_in l.settled) (take l.to-index l.those)
