use Rattle.std.proofs.Common.{take}
use Rattle.std.specs.Prelude.{AllPairs}
use Rattle.teg_due.proofs.DueOnce.{AreOtherFirings}
use Rattle.teg_due.proofs.row_rules.are_once.Given as goal

-- no two of the rows so far are of one firing
abbrev pub invariant-loop-index : goal.invariant-loop-index
invariant-loop-index l = AllPairs AreOtherFirings (take l.index l.rows)
