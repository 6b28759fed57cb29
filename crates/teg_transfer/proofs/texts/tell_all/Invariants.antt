use Rattle.std.proofs.Common.{take}
use Rattle.teg_transfer.specs.TransferTexts.{AreInputTimes, AreToldBehind}
use Rattle.walks_by_ends.specs.EndForms.{AreEndsOf}
use Rattle.teg_transfer.proofs.texts.tell_all.Given as goal

abbrev pub invariant-loop-index : goal.invariant-loop-index
invariant-loop-index l =
    AreToldBehind l.net l.asked.limit (take l.index l.inputs) l.fn.first.text.items l.told.text.items × AreInputTimes l.net l.asked.limit l.told.kept.items
    × AreEndsOf l.net l.told.ends
