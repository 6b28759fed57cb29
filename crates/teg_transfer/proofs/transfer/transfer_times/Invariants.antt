use Rattle.std.proofs.Common.{◌≡◌, All, map, take}
use Rattle.teg_report.specs.AnswerMeanings.{times_from}
use Rattle.teg_transfer.specs.TimesFromInputs.{IsTimesFrom}
use Rattle.walks_by_ends.specs.EndForms.{AreEndsOf}
use Rattle.teg_transfer.proofs.transfer.transfer_times.Given as goal

abbrev pub invariant-loop-input : goal.invariant-loop-input
invariant-loop-input l =
    (map (λ from. from.from) (map times_from l.times.items) ≡ take l.input-index l.input-items) × All (IsTimesFrom l.net l.limit) (map times_from l.times.items) × AreEndsOf l.net l.ends
