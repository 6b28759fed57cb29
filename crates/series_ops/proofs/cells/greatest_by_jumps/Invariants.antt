use Rattle.series_ops.proofs.JumpLaws.{IsFound}
use Rattle.series_ops.proofs.cells.greatest_by_jumps.Given as goal

abbrev pub invariant-loop-index : goal.invariant-loop-index
invariant-loop-index l = IsFound l.first l.second l.jumps l.at.shift l.at.from l.at.count l.best l.index
